-- The bits that a pin or a joint has.
use Rattle.kit.specs.declared.shape.Pin.{Pin}
use Rattle.catalogue.specs.declared.records.Target.{Target}
use Rattle.catalogue.specs.declared.records.Joint.{Joint}
use Rattle.catalogue.specs.declared.records.PinRecord.{PinRecord}

-- the pin that a record declares
abbrev pub shape : PinRecord → Pin
shape p = record { side = p.side; first = p.offset; width = p.width }

-- these bits of a part, joined to that
abbrev pub joint_of : Pin → Target → Joint
joint_of p t = record { side = p.side; offset = p.first; width = p.width; target = t }

use Rattle.kit.specs.AtomLaws.{atoms_sound}
use Rattle.kit.specs.RomLaws.{rom_sound}
use Rattle.kit.specs.Atoms.{atoms}
use Rattle.kit.specs.Roms.{rom}
use Rattle.kit.specs.PairLaws.{pair_sound}
use Rattle.kit.proofs.laws.laws_are_met.Goals as goal

pub returns : goal.returns
returns c = record {
  atoms = atoms_sound;
  rom = rom_sound;
  pairs = λ words. (pair_sound atoms (rom words) atoms_sound (rom_sound words), pair_sound (rom words) atoms (rom_sound words) atoms_sound);
}

-- The lexemes that lead to a state: each step adds its lexeme, and what is read to its end is a chip.
use Rattle.std.proofs.Common.{◌≡◌, ℕ, true, false, List, [], ◌∷◌, ◌++◌, Some, None, codes, sym, refl, ap, ◌∙◌, subst, append_assoc, append-nil}
use Rattle.std.specs.List.{flat_map}
use Rattle.std.specs.Str.{bytes_eq}
use Rattle.std.proofs.lemmas.Slice.Eq.{bytes_eq-Decides}
use Rattle.std.proofs.lemmas.List.{flat_map_more}
use Rattle.std.proofs.lemmas.Bool.{cond_both}
use Rattle.lexer.specs.Lexemes.{Lexeme, name, number, fixed}
use Rattle.grammar.specs.Tree as tree
use Rattle.grammar.specs.Tree.{Name, Row, Pin, Subscript, all, bit, range, Connection, Part, Header}
use Rattle.grammar.specs.Spelling.{mark, named, separated, pin_words, pins_words, ins_words, subscript_words, connection_words, part_words, header_words, parts_words, chip_words}
use Rattle.grammar.specs.Progress.{Side, ins, outs, Line, End, near, far, State, start, chip, called, opened, pin, pin_named, width_open, width_read, pin_wide, ins_read, headed, parts, first_line, next_line, part_named, connection, end_named, sub_open, sub_low, sub_dots, sub_high, end_read, equals, constant_read, closed, done, Next, go, stop, wanted, pins_read, after_pin, with_connection, part_of, after_connection, after_end, follow, run}

-- with a comma behind each
abbrev pub commas : {X : Type 0} → (X → List Lexeme) → List X → List Lexeme
commas f xs = flat_map (λ x. f x ++ mark (codes ",")) xs

-- what stands before the first pin of a side
abbrev pub side_front : Side → List Lexeme
side_front (ins n) = fixed (codes "CHIP") ∷ (named n ++ (fixed (codes "{") ∷ mark (codes "IN")))
side_front (outs n i) = fixed (codes "CHIP") ∷ (named n ++ (fixed (codes "{") ∷ (ins_words i ++ mark (codes "OUT"))))

-- before the next pin
abbrev pub pin_front : Side → List Pin → List Lexeme
pin_front d ps = side_front d ++ commas pin_words ps

-- before the next part line
abbrev pub lines_front : Header → List Part → List Lexeme
lines_front h ps = header_words h ++ (fixed (codes "PARTS") ∷ (fixed (codes ":") ∷ flat_map part_words ps))

-- before the first connection of a part line, and before the next one
abbrev pub line_open : Line → List Lexeme
line_open l = (lines_front l.header l.before ++ named l.name) ++ mark (codes "(")

abbrev pub line_front : Line → List Lexeme
line_front l = line_open l ++ commas connection_words l.connections

-- before the far end of a connection
abbrev pub equals_front : Line → Name → Subscript → List Lexeme
equals_front l n s = line_front l ++ (named n ++ (subscript_words s ++ mark (codes "=")))

-- an end up to its name
abbrev pub end_front : End → List Lexeme
end_front (near l n) = line_front l ++ named n
end_front (far l n s f) = equals_front l n s ++ named f

-- the lexemes that lead to a state
abbrev pub front : State → List Lexeme
front start = []
front chip = mark (codes "CHIP")
front (called n) = fixed (codes "CHIP") ∷ named n
front (opened n) = fixed (codes "CHIP") ∷ (named n ++ mark (codes "{"))
front (pin d ps) = pin_front d ps
front (pin_named d ps p) = pin_front d ps ++ named p
front (width_open d ps p) = (pin_front d ps ++ named p) ++ mark (codes "[")
front (width_read d ps p m) = ((pin_front d ps ++ named p) ++ mark (codes "[")) ++ number m ∷ []
front (pin_wide d ps p m) = (((pin_front d ps ++ named p) ++ mark (codes "[")) ++ number m ∷ []) ++ mark (codes "]")
front (ins_read n r) = side_front (ins n) ++ pins_words r
front (headed h) = header_words h
front (parts h) = header_words h ++ mark (codes "PARTS")
front (first_line h) = lines_front h []
front (next_line h r) = header_words h ++ (fixed (codes "PARTS") ∷ (fixed (codes ":") ∷ parts_words r))
front (part_named h ps p) = lines_front h ps ++ named p
front (connection l) = line_front l
front (end_named e) = end_front e
front (sub_open e) = end_front e ++ mark (codes "[")
front (sub_low e m) = (end_front e ++ mark (codes "[")) ++ number m ∷ []
front (sub_dots e m) = ((end_front e ++ mark (codes "[")) ++ number m ∷ []) ++ mark (codes "..")
front (sub_high e m k) = (((end_front e ++ mark (codes "[")) ++ number m ∷ []) ++ mark (codes "..")) ++ number k ∷ []
front (end_read e s) = end_front e ++ subscript_words s
front (equals l n s) = equals_front l n s
front (constant_read l c) = line_front l ++ connection_words c
front (closed h ps p) = lines_front h ps ++ (named p.name ++ (fixed (codes "(") ∷ (separated connection_words p.connections ++ mark (codes ")"))))
front (done c) = chip_words c

-- what was read is the lexemes us, unless reading stopped
abbrev pub Reached : List Lexeme → Next → Type 0
Reached us (go b) = front b ≡ us
Reached us stop = Unit {0}

-- the wanted word goes on, and else another way
first : (us : List Lexeme) (w v : List ℕ) (x : State) (y : Next) → front x ≡ us ++ mark v → Reached (us ++ mark w) y → Reached (us ++ mark w) (wanted w v (go x) y)
first us w v x y p q =
    cond_both (bytes_eq w v) (go x) y (Reached (us ++ mark w)) (λ t. p ∙ ap (λ u. us ++ mark u) (sym ((bytes_eq-Decides w v).0 t))) (λ _. q)

sole : (us : List Lexeme) (w v : List ℕ) (x : State) → front x ≡ us ++ mark v → Reached (us ++ mark w) (wanted w v (go x) stop)
sole us w v x p = first us w v x stop p tt

-- lists in other groups
module _ (a b c d : List Lexeme) where
  four : a ++ (b ++ (c ++ d)) ≡ ((a ++ b) ++ c) ++ d
  four = simp append_assoc

  row_end : a ++ ((b ++ c) ++ d) ≡ ((a ++ b) ++ c) ++ d
  row_end = simp append_assoc

  five : (e : List Lexeme) → a ++ (b ++ (c ++ (d ++ e))) ≡ (a ++ (b ++ (c ++ d))) ++ e
  five e = simp append_assoc

  six : (e f : List Lexeme) → ((a ++ (b ++ (c ++ d))) ++ e) ++ f ≡ a ++ (b ++ (c ++ (d ++ (e ++ f))))
  six e f = simp append_assoc

  six_row : (e f : List Lexeme) → a ++ (b ++ (c ++ ((d ++ e) ++ f))) ≡ ((((a ++ b) ++ c) ++ d) ++ e) ++ f
  six_row e f = simp append_assoc

-- one more of a row, and a comma
comma_row : {X : Type 0} (f : X → List Lexeme) (us : List Lexeme) (xs : List X) (x : X) → us ++ commas f (xs ++ x ∷ []) ≡ ((us ++ commas f xs) ++ f x) ++ mark (codes ",")
comma_row f us xs x =
    sym (flat_map_more (λ y. f y ++ mark (codes ",")) us xs x) ∙ sym (append_assoc (us ++ commas f xs) (f x) (mark (codes ",")))

-- behind a pin
pins_front : (d : Side) (r : Row Pin) → front (pins_read d r) ≡ side_front d ++ pins_words r
pins_front (ins n) r = refl
pins_front (outs n i) r = simp append_assoc

behind_pin : (d : Side) (ps : List Pin) (p : Pin) (w : List ℕ) (us : List Lexeme) → us ≡ pin_front d ps ++ pin_words p → Reached (us ++ mark w) (after_pin d ps p w)
behind_pin d ps p w us e =
    first us w (codes ",") (pin d (ps ++ p ∷ [])) _
    (comma_row pin_words (side_front d) ps p ∙ ap (λ l. l ++ mark (codes ",")) (sym e))
    (sole us w (codes ";") (pins_read d (record { init = ps; last = p })) (pins_front d (record { init = ps; last = p }) ∙ row_end (side_front d) (commas pin_words ps) (pin_words p) (mark (codes ";")) ∙ ap (λ l. l ++ mark (codes ";")) (sym e)))

-- behind a connection
behind_connection : (l : Line) (c : Connection) (w : List ℕ) (us : List Lexeme) → us ≡ line_front l ++ connection_words c → Reached (us ++ mark w) (after_connection l c w)
behind_connection l c w us e =
    first us w (codes ",") (connection (with_connection l c)) _
    (comma_row connection_words (line_open l) l.connections c ∙ ap (λ u. u ++ mark (codes ",")) (sym e))
    (sole us w (codes ")") (closed l.header l.before (part_of l c))
    (six_row (lines_front l.header l.before) (named l.name) (mark (codes "(")) (commas connection_words l.connections) (connection_words c) (mark (codes ")")) ∙ ap (λ u. u ++ mark (codes ")")) (sym e)))

-- behind an end with its subscript
behind_end : (e : End) (s : Subscript) (w : List ℕ) (us : List Lexeme) → us ≡ end_front e ++ subscript_words s → Reached (us ++ mark w) (after_end e s w)
behind_end (near l n) s w us k = sole us w (codes "=") (equals l n s) (four (line_front l) (named n) (subscript_words s) (mark (codes "=")) ∙ ap (λ u. u ++ mark (codes "=")) (sym k))
behind_end (far l n s f) t w us k = behind_connection l (record { near = n; bits = s; far = tree.pin f t }) w us (k ∙ six (line_front l) (named n) (subscript_words s) (mark (codes "=")) (named f) (subscript_words t))

-- each step adds its lexeme
pub adds : (a : State) (w : Lexeme) → Reached (front a ++ w ∷ []) (follow a w)
adds start (name i n) = tt
adds start (number n) = tt
adds start (fixed w) = sole [] w (codes "CHIP") chip refl
adds chip (name i n) = refl
adds chip (number n) = tt
adds chip (fixed w) = tt
adds (called c) (name i n) = tt
adds (called c) (number n) = tt
adds (called c) (fixed w) = sole (front (called c)) w (codes "{") (opened c) refl
adds (opened c) (name i n) = tt
adds (opened c) (number n) = tt
adds (opened c) (fixed w) = first (front (opened c)) w (codes "IN") (pin (ins c) []) _ refl (sole (front (opened c)) w (codes "OUT") (pin (outs c None) []) refl)
adds (pin d ps) (name i n) = refl
adds (pin d ps) (number n) = tt
adds (pin d ps) (fixed w) = tt
adds (pin_named d ps p) (name i n) = tt
adds (pin_named d ps p) (number n) = tt
adds (pin_named d ps p) (fixed w) = first (front (pin_named d ps p)) w (codes "[") (width_open d ps p) _ refl (behind_pin d ps (record { name = p; width = None }) w (front (pin_named d ps p)) refl)
adds (width_open d ps p) (name i n) = tt
adds (width_open d ps p) (number n) = refl
adds (width_open d ps p) (fixed w) = tt
adds (width_read d ps p m) (name i n) = tt
adds (width_read d ps p m) (number n) = tt
adds (width_read d ps p m) (fixed w) = sole (front (width_read d ps p m)) w (codes "]") (pin_wide d ps p m) refl
adds (pin_wide d ps p m) (name i n) = tt
adds (pin_wide d ps p m) (number n) = tt
adds (pin_wide d ps p m) (fixed w) = behind_pin d ps (record { name = p; width = Some m }) w (front (pin_wide d ps p m)) (simp append_assoc)
adds (ins_read c r) (name i n) = tt
adds (ins_read c r) (number n) = tt
adds (ins_read c r) (fixed w) = sole (front (ins_read c r)) w (codes "OUT") (pin (outs c (Some r)) []) (append-nil _)
adds (headed h) (name i n) = tt
adds (headed h) (number n) = tt
adds (headed h) (fixed w) = sole (front (headed h)) w (codes "PARTS") (parts h) refl
adds (parts h) (name i n) = tt
adds (parts h) (number n) = tt
adds (parts h) (fixed w) = sole (front (parts h)) w (codes ":") (first_line h) (simp append_assoc)
adds (first_line h) (name i n) = refl
adds (first_line h) (number n) = tt
adds (first_line h) (fixed w) = tt
adds (next_line h r) (name i n) = simp (append_assoc, ← flat_map_more part_words [] r.init r.last)
adds (next_line h r) (number n) = tt
adds (next_line h r) (fixed w) = sole (front (next_line h r)) w (codes "}") (done (record { header = h; parts = r })) (simp append_assoc)
adds (part_named h ps p) (name i n) = tt
adds (part_named h ps p) (number n) = tt
adds (part_named h ps p) (fixed w) = sole (front (part_named h ps p)) w (codes "(") (connection (record { header = h; before = ps; name = p; connections = [] })) (append-nil _)
adds (connection l) (name i n) = refl
adds (connection l) (number n) = tt
adds (connection l) (fixed w) = tt
adds (end_named e) (name i n) = tt
adds (end_named e) (number n) = tt
adds (end_named e) (fixed w) = first (front (end_named e)) w (codes "[") (sub_open e) _ refl (behind_end e all w (front (end_named e)) (sym (append-nil _)))
adds (sub_open e) (name i n) = tt
adds (sub_open e) (number n) = refl
adds (sub_open e) (fixed w) = tt
adds (sub_low e m) (name i n) = tt
adds (sub_low e m) (number n) = tt
adds (sub_low e m) (fixed w) = first (front (sub_low e m)) w (codes "]") (end_read e (bit m)) _ (simp append_assoc) (sole (front (sub_low e m)) w (codes "..") (sub_dots e m) refl)
adds (sub_dots e m) (name i n) = tt
adds (sub_dots e m) (number n) = refl
adds (sub_dots e m) (fixed w) = tt
adds (sub_high e m k) (name i n) = tt
adds (sub_high e m k) (number n) = tt
adds (sub_high e m k) (fixed w) = sole (front (sub_high e m k)) w (codes "]") (end_read e (range m k)) (simp append_assoc)
adds (end_read e s) (name i n) = tt
adds (end_read e s) (number n) = tt
adds (end_read e s) (fixed w) = behind_end e s w (front (end_read e s)) refl
adds (equals l n s) (name i b) = refl
adds (equals l n s) (number m) = tt
adds (equals l n s) (fixed w) =
    first (front (equals l n s)) w (codes "true") (constant_read l (record { near = n; bits = s; far = tree.constant true })) _ (five (line_front l) (named n) (subscript_words s) (mark (codes "=")) (mark (codes "true")))
    (sole (front (equals l n s)) w (codes "false") (constant_read l (record { near = n; bits = s; far = tree.constant false })) (five (line_front l) (named n) (subscript_words s) (mark (codes "=")) (mark (codes "false"))))
adds (constant_read l c) (name i n) = tt
adds (constant_read l c) (number n) = tt
adds (constant_read l c) (fixed w) = behind_connection l c w (front (constant_read l c)) refl
adds (closed h ps p) (name i n) = tt
adds (closed h ps p) (number n) = tt
adds (closed h ps p) (fixed w) = sole (front (closed h ps p)) w (codes ";") (next_line h (record { init = ps; last = p })) (simp append_assoc)
adds (done c) (name i n) = tt
adds (done c) (number n) = tt
adds (done c) (fixed w) = tt

-- and so do many
reached : (ws us : List Lexeme) (x : Next) → Reached us x → Reached (us ++ ws) (run ws x)
reached [] us x k = subst (λ l. Reached l x) (sym (append-nil us)) k
reached (w ∷ ws) us (go a) k =
    subst (λ l. Reached l (run ws (follow a w))) (append_assoc us (w ∷ []) ws)
    (reached ws (us ++ w ∷ []) (follow a w) (subst (λ l. Reached (l ++ w ∷ []) (follow a w)) k (adds a w)))
reached (w ∷ ws) us stop k = tt

-- the state tells which lexemes led to it
pub front_is : (ws : List Lexeme) (st : State) → run ws (go start) ≡ go st → front st ≡ ws
front_is ws st h = subst (Reached ws) h (reached ws [] (go start) refl)

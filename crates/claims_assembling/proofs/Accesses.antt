-- The line of a read or a write is read back. Assumes nothing.
use mathlib.Core.Path.{◌≡◌, refl, ap, ◌∙◌}
use mathlib.Core.Bool.{Bool, true, false, cond}
use mathlib.Core.List.{List, ◌∷◌, ◌++◌, append_assoc}
use Prim.Native.Nat.{ℕ, ◌<◌, ◌≤◌}
use native.Mathlib.Omega.{arith}
use lib.Dec.{ltb}
use lib.ListN.{length, get_or}
use Rattle.qsm.specs.declared.event.Access.TheVariants.{Read, Write}
use Rattle.qsm.specs.declared.event.Event.TheVariants as events
use Rattle.trace.specs.Trace.{read_kind, write_kind}
use Rattle.std.specs.Prelude.{Err, is_err}
use Rattle.text.specs.Digits.{ascii, decimal, hex_word, hex_long, number}
use Rattle.text.specs.Register.{registers}
use Rattle.text.specs.Record.{place, access, event}
use Rattle.tool_assemble.specs.Scan.{blanks_from, literal, element, scan_from}
use Rattle.tool_assemble.specs.Item.{access_pattern, access_item, hold_item, holds, reads, writes, entries, said, item}
use Rattle.tool_assemble.specs.declared.item.Item.{Item}
use Rattle.tool_assemble.specs.declared.item.Wrong.{Wrong}
use Rattle.tool_assemble.specs.declared.item.Fault.TheVariants.{NotUnderstood}
use Rattle.claims_assembling.specs.Laws.{ReadsGiveBack, WritesGiveBack}
use Rattle.claims_assembling.proofs.Lines.{printed_is, numbered, past}
use Rattle.claims_assembling.proofs.AccessItems.{rest, made, width_t, text, access_item_holds}

-- ---- which of the entries it is

-- A pattern that fails at a text's first byte.
abbrev stuck : List ℕ → Wrong
stuck t = record { fault = NotUnderstood; left = length t }

wrong_both : (w : Wrong) (further : Bool) → is_err {T = Item} {E = Wrong} (cond further (Err w) (Err w)) ≡ true
wrong_both w true = refl
wrong_both w false = refl

no_hold : (t : List ℕ) → is_err (holds (114 ∷ t)) ≡ true
unfolding holds hold_item scan_from element literal
no_hold t = wrong_both (stuck (114 ∷ t)) (ltb (length (114 ∷ t)) (length (114 ∷ t)))

no_hold_2 : (t : List ℕ) → is_err (holds (119 ∷ t)) ≡ true
unfolding holds hold_item scan_from element literal
no_hold_2 t = wrong_both (stuck (119 ∷ t)) (ltb (length (119 ∷ t)) (length (119 ∷ t)))

no_read : (t : List ℕ) → is_err (reads (119 ∷ t)) ≡ true
unfolding reads access_item scan_from element literal
no_read t = wrong_both (stuck (119 ∷ t)) (ltb (length (119 ∷ t)) (length (119 ∷ t)))

-- A user is no supervisor.
other_read : (t : List ℕ) → is_err (access_item false true (access_pattern false true) (ascii "read as user" ++ t)) ≡ true
unfolding access_item scan_from element literal blanks_from
other_read t = refl

other_write : (t : List ℕ) → is_err (access_item true true (access_pattern true true) (ascii "write as user" ++ t)) ≡ true
unfolding access_item scan_from element literal blanks_from
other_write t = refl

-- Each of the four texts.
abbrev read_t : Bool → ℕ → List ℕ → List ℕ
read_t true width t = text (ascii "read") (ascii "supervisor,") refl refl (λ r. omega arith) width t
read_t false width t = text (ascii "read") (ascii "user,") refl refl (λ r. omega arith) width t

abbrev write_t : Bool → ℕ → List ℕ → List ℕ
write_t true width t = text (ascii "write") (ascii "supervisor,") refl refl (λ r. omega arith) width t
write_t false width t = text (ascii "write") (ascii "user,") refl refl (λ r. omega arith) width t

abbrev names : Bool → ℕ → ℕ → ℕ → List ℕ
names writes width offset value = registers width offset ++ (ascii " at " ++ rest writes offset value)

reads_it : (supervisor : Bool) (width offset : ℕ) → width < 128 → offset < 65536 →
    reads (read_t supervisor width (names false width offset 0)) ≡ made false supervisor width offset 0
unfolding reads
reads_it true width offset few small =
    rw (access_item_holds (ascii "read") (ascii "supervisor,") refl refl (λ r. omega arith) false true width offset 0 few small (omega arith))
reads_it false width offset few small =
    rw (access_item_holds (ascii "read") (ascii "user,") refl refl (λ r. omega arith) false false width offset 0 few small (omega arith))
    (past (access_item false true (access_pattern false true) (read_t false width (names false width offset 0))) read_kind (events.Access (Read false width offset)) (other_read (ascii ", " ++ width_t width (names false width offset 0))))

writes_it : (supervisor : Bool) (width offset value : ℕ) → width < 128 → offset < 65536 → value < 4294967296 →
    writes (write_t supervisor width (names true width offset value)) ≡ made true supervisor width offset value
unfolding writes
writes_it true width offset value few small fits =
    rw (access_item_holds (ascii "write") (ascii "supervisor,") refl refl (λ r. omega arith) true true width offset value few small fits)
writes_it false width offset value few small fits =
    rw (access_item_holds (ascii "write") (ascii "user,") refl refl (λ r. omega arith) true false width offset value few small fits)
    (past (access_item true true (access_pattern true true) (write_t false width (names true width offset value))) write_kind (events.Access (Write false width offset value)) (other_write (ascii ", " ++ width_t width (names true width offset value))))

read_entry : (supervisor : Bool) (width offset : ℕ) → width < 128 → offset < 65536 →
    entries (read_t supervisor width (names false width offset 0)) ≡ made false supervisor width offset 0
unfolding entries
read_entry true width offset few small =
    rw (reads_it true width offset few small, past (holds (read_t true width (names false width offset 0))) read_kind (events.Access (Read true width offset)) (no_hold _))
read_entry false width offset few small =
    rw (reads_it false width offset few small, past (holds (read_t false width (names false width offset 0))) read_kind (events.Access (Read false width offset)) (no_hold _))

write_entry : (supervisor : Bool) (width offset value : ℕ) → width < 128 → offset < 65536 → value < 4294967296 →
    entries (write_t supervisor width (names true width offset value)) ≡ made true supervisor width offset value
unfolding entries
write_entry true width offset value few small fits =
    let e = events.Access (Write true width offset value) in
    let t = write_t true width (names true width offset value) in
    rw (writes_it true width offset value few small fits, past (reads t) write_kind e (no_read _), past (holds t) write_kind e (no_hold_2 _))
write_entry false width offset value few small fits =
    let e = events.Access (Write false width offset value) in
    let t = write_t false width (names true width offset value) in
    rw (writes_it false width offset value few small fits, past (reads t) write_kind e (no_read _), past (holds t) write_kind e (no_hold_2 _))

-- ---- as `text` prints them

regroup : (a b c d e : List ℕ) → (((a ++ b) ++ c) ++ d) ++ e ≡ a ++ (b ++ (c ++ (d ++ e)))
regroup a b c d e = simp append_assoc

regroup_2 : (a b c d e f g : List ℕ) → (((((a ++ b) ++ c) ++ d) ++ e) ++ f) ++ g ≡ a ++ (b ++ (c ++ (d ++ (e ++ (f ++ g)))))
regroup_2 a b c d e f g = simp append_assoc

read_spelled : (supervisor : Bool) (width offset : ℕ) → access (Read supervisor width offset) ≡ read_t supervisor width (names false width offset 0)
unfolding place
read_spelled true width offset = rw (regroup (decimal 3 width) (ascii ", ") (registers width offset) (ascii " at ") (hex_word offset))
read_spelled false width offset = rw (regroup (decimal 3 width) (ascii ", ") (registers width offset) (ascii " at ") (hex_word offset))

write_spelled : (supervisor : Bool) (width offset value : ℕ) →
    access (Write supervisor width offset value) ≡ write_t supervisor width (names true width offset value)
unfolding place
write_spelled true width offset value =
    rw (regroup_2 (decimal 3 width) (ascii ", ") (registers width offset) (ascii " at ") (hex_word offset) (ascii ", value ") (hex_long value))
write_spelled false width offset value =
    rw (regroup_2 (decimal 3 width) (ascii ", ") (registers width offset) (ascii " at ") (hex_word offset) (ascii ", value ") (hex_long value))

read_first : (supervisor : Bool) (width : ℕ) (t : List ℕ) → 33 ≤ get_or (read_t supervisor width t) 0 0
read_first true width t = omega arith
read_first false width t = omega arith

write_first : (supervisor : Bool) (width : ℕ) (t : List ℕ) → 33 ≤ get_or (write_t supervisor width t) 0 0
write_first true width t = omega arith
write_first false width t = omega arith

pub reads_give_back : ReadsGiveBack
unfolding event
reads_give_back n supervisor width offset few small =
    ap item (printed_is n read_kind (events.Access (Read supervisor width offset)))
    ∙ ap (λ (t : List ℕ). item (number n ++ t)) (read_spelled supervisor width offset)
    ∙ numbered n (read_t supervisor width (names false width offset 0)) (read_first supervisor width (names false width offset 0))
    ∙ ap said (read_entry supervisor width offset few small)

pub writes_give_back : WritesGiveBack
unfolding event
writes_give_back n supervisor width offset value few small fits =
    ap item (printed_is n write_kind (events.Access (Write supervisor width offset value)))
    ∙ ap (λ (t : List ℕ). item (number n ++ t)) (write_spelled supervisor width offset value)
    ∙ numbered n (write_t supervisor width (names true width offset value)) (write_first supervisor width (names true width offset value))
    ∙ ap said (write_entry supervisor width offset value few small fits)

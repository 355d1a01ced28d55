-- A read or a write as an item: its numbers behind the names, the names, and what stands up to them. Assumes nothing.
use mathlib.Core.Path.{◌≡◌, refl, sym, ap, ◌∙◌}
use mathlib.Core.Bool.{Bool, true, false}
use mathlib.Core.List.{List, [], ◌∷◌, ◌++◌, append_assoc}
use Prim.Native.Nat.{ℕ, ◌-◌, ◌/◌, ◌%◌, ◌<◌, ◌≤◌}
use native.Mathlib.Omega.{arith}
use lib.ListN.{length, drop, get_or}
use lib.Seq.{drop-append_seam}
use Rattle.qsm.specs.declared.event.Access.TheVariants.{Read, Write}
use Rattle.qsm.specs.declared.event.Event.TheVariants as events
use Rattle.trace.specs.Trace.{read_kind, write_kind}
use Rattle.std.specs.Prelude.{Result, Ok}
use Rattle.text.specs.Digits.{ascii, decimal, hex_word, hex_long}
use Rattle.text.specs.Register.{registers}
use Rattle.tool_assemble.specs.Scan.{scan_from}
use Rattle.tool_assemble.specs.Item.{behind_at, access_at, named, access_item, writes}
use Rattle.tool_assemble.specs.declared.scan.Numbers.{Numbers}
use Rattle.tool_assemble.proofs.Reading.{scan_end}
use Rattle.tool_assemble.specs.declared.item.Item.{Item}
use Rattle.tool_assemble.specs.declared.item.Item.TheVariants.{Record}
use Rattle.tool_assemble.specs.declared.item.Wrong.{Wrong}
use Rattle.claims_assembling.proofs.Digits.{hex_least, decimal_first}
use Rattle.claims_assembling.proofs.Steps.{bytes_step, gap_step, number_step, push, offset_read, value_read, decimal_field, suffix, plain}
use Rattle.claims_assembling.proofs.Names.{registers_first, name_length_holds, own_name}
use Rattle.claims_assembling.proofs.Holds.{end_step, whole, none}

-- ---- what stands behind the names

abbrev pub rest : Bool → ℕ → ℕ → List ℕ
rest false offset value = hex_word offset
rest true offset value = hex_word offset ++ (ascii ", value " ++ hex_long value)

-- The numbers that it gives.
abbrev given : Bool → ℕ → ℕ → Numbers
given false offset value = record { first = 0; second = 0; third = offset }
given true offset value = record { first = 0; second = offset; third = value }

read_scan : (offset : ℕ) → offset < 65536 → scan_from (behind_at false) (ascii " at " ++ hex_word offset) none ≡ whole (given false offset 0)
read_scan offset small =
    gap_step (97 ∷ 116 ∷ 32 ∷ 2 ∷ 31 ∷ []) (97 ∷ 116 ∷ 32 ∷ hex_word offset) none (omega arith)
    ∙ bytes_step (ascii "at") (32 ∷ 2 ∷ 31 ∷ []) (32 ∷ hex_word offset) none refl
    ∙ gap_step (2 ∷ 31 ∷ []) (hex_word offset) none (omega (arith, hex_least (offset / 256 % 256 / 16)))
    ∙ number_step 2 offset (hex_word offset) (31 ∷ []) [] none (omega arith) (offset_read offset [] small (omega arith))
    ∙ end_step (push none offset)

value_scan : (value : ℕ) (n : Numbers) → value < 4294967296 → scan_from (44 ∷ 32 ∷ ascii "value" ++ 32 ∷ 3 ∷ 31 ∷ []) (ascii ", value " ++ hex_long value) n ≡ whole (push n value)
value_scan value n small =
    bytes_step (44 ∷ []) (32 ∷ ascii "value" ++ 32 ∷ 3 ∷ 31 ∷ []) (32 ∷ ascii "value" ++ 32 ∷ hex_long value) n refl
    ∙ gap_step (ascii "value" ++ 32 ∷ 3 ∷ 31 ∷ []) (ascii "value" ++ 32 ∷ hex_long value) n (omega arith)
    ∙ bytes_step (ascii "value") (32 ∷ 3 ∷ 31 ∷ []) (32 ∷ hex_long value) n refl
    ∙ gap_step (3 ∷ 31 ∷ []) (hex_long value) n (omega (arith, hex_least (value / 65536 % 65536 / 256 % 256 / 16)))
    ∙ number_step 3 value (hex_long value) (31 ∷ []) [] n (omega arith) (value_read value [] small (omega arith))
    ∙ end_step (push n value)

write_scan : (offset value : ℕ) → offset < 65536 → value < 4294967296 →
    scan_from (behind_at true) (ascii " at " ++ (hex_word offset ++ (ascii ", value " ++ hex_long value))) none ≡ whole (given true offset value)
write_scan offset value small fits =
    gap_step (97 ∷ 116 ∷ 32 ∷ 2 ∷ 44 ∷ 32 ∷ ascii "value" ++ 32 ∷ 3 ∷ 31 ∷ []) (97 ∷ 116 ∷ 32 ∷ (hex_word offset ++ (ascii ", value " ++ hex_long value))) none (omega arith)
    ∙ bytes_step (ascii "at") (32 ∷ 2 ∷ 44 ∷ 32 ∷ ascii "value" ++ 32 ∷ 3 ∷ 31 ∷ []) (32 ∷ (hex_word offset ++ (ascii ", value " ++ hex_long value))) none refl
    ∙ gap_step (2 ∷ 44 ∷ 32 ∷ ascii "value" ++ 32 ∷ 3 ∷ 31 ∷ []) (hex_word offset ++ (ascii ", value " ++ hex_long value)) none
    (omega (arith, hex_least (offset / 256 % 256 / 16)))
    ∙ number_step 2 offset (hex_word offset) (44 ∷ 32 ∷ ascii "value" ++ 32 ∷ 3 ∷ 31 ∷ []) (ascii ", value " ++ hex_long value) none (omega arith)
    (offset_read offset (ascii ", value " ++ hex_long value) small (omega arith))
    ∙ value_scan value (push none offset) fits

behind_scan : (writes : Bool) (offset value : ℕ) → offset < 65536 → value < 4294967296 →
    scan_from (behind_at writes) (ascii " at " ++ rest writes offset value) none ≡ whole (given writes offset value)
behind_scan false offset value small fits = read_scan offset small
behind_scan true offset value small fits = write_scan offset value small fits

-- ---- from the names on

abbrev pub made : Bool → Bool → ℕ → ℕ → ℕ → Result Item Wrong
made false supervisor width offset value = Ok (Record read_kind (events.Access (Read supervisor width offset)))
made true supervisor width offset value = Ok (Record write_kind (events.Access (Write supervisor width offset value)))

at_item : (writes supervisor : Bool) (width offset value : ℕ) (r : List ℕ) → offset < 65536 → value < 4294967296 →
    access_at writes supervisor width (registers width offset ++ r) (length (registers width offset)) (given writes offset value) ≡ made writes supervisor width offset value
unfolding access_at
at_item false supervisor width offset value r small fits =
    let same : offset % 65536 ≡ offset = omega arith in
    rw (same, own_name width offset r)
at_item true supervisor width offset value r small fits =
    let same : offset % 65536 ≡ offset = omega arith in
    let all : value % 4294967296 ≡ value = omega arith in
    rw (same, own_name width offset r, all)

named_item : (writes supervisor : Bool) (width offset value : ℕ) → offset < 65536 → value < 4294967296 →
    named writes supervisor width (registers width offset ++ (ascii " at " ++ rest writes offset value)) ≡ made writes supervisor width offset value
unfolding named
named_item writes supervisor width offset value small fits =
    rw (
      name_length_holds width offset (rest writes offset value),
      drop-append_seam (registers width offset) (ascii " at " ++ rest writes offset value),
      behind_scan writes offset value small fits,
    ) (at_item writes supervisor width offset value (ascii " at " ++ rest writes offset value) small fits)

-- ---- up to the names

abbrev pub width_p : List ℕ
width_p = ascii "width" ++ (32 ∷ 5 ∷ 44 ∷ 32 ∷ [])

abbrev pub width_t : ℕ → List ℕ → List ℕ
width_t width t = ascii "width" ++ (32 ∷ (decimal 3 width ++ (44 ∷ 32 ∷ t)))

width_scan : (width : ℕ) (t : List ℕ) → width < 128 → 33 ≤ get_or t 0 0 →
    scan_from (32 ∷ width_p) (32 ∷ width_t width t) none ≡ Ok (record { left = length t; numbers = push none width })
width_scan width t small begun =
    let first : 48 ≤ get_or (decimal 3 width ++ (44 ∷ 32 ∷ t)) 0 0 = (decimal_first 3 width (44 ∷ 32 ∷ t) (omega arith)).0 in
    gap_step width_p (width_t width t) none (omega arith)
    ∙ bytes_step (ascii "width") (32 ∷ 5 ∷ 44 ∷ 32 ∷ []) (32 ∷ (decimal 3 width ++ (44 ∷ 32 ∷ t))) none refl
    ∙ gap_step (5 ∷ 44 ∷ 32 ∷ []) (decimal 3 width ++ (44 ∷ 32 ∷ t)) none (omega (arith, first))
    ∙ number_step 5 width (decimal 3 width) (44 ∷ 32 ∷ []) (44 ∷ 32 ∷ t) none (omega arith)
    (decimal_field 5 2 width 128 (44 ∷ 32 ∷ t) (omega arith) refl small (omega arith) (omega arith))
    ∙ bytes_step (44 ∷ []) (32 ∷ []) (32 ∷ t) (push none width) refl
    ∙ gap_step [] t (push none width) begun
    ∙ scan_end t (push none width)

-- The verb, who accesses, and then the width.
module _ (v w : List ℕ) (plain-v : plain v ≡ true) (plain-w : plain w ≡ true) (begins-w : (r : List ℕ) → 33 ≤ get_or (w ++ r) 0 0) where
  abbrev pub pattern : List ℕ
  pattern = v ++ (32 ∷ (ascii "as" ++ (32 ∷ (w ++ (32 ∷ width_p)))))

  abbrev pub text : ℕ → List ℕ → List ℕ
  text width t = v ++ (32 ∷ (ascii "as" ++ (32 ∷ (w ++ (32 ∷ width_t width t)))))

  front_scan : (width : ℕ) (t : List ℕ) → width < 128 → 33 ≤ get_or t 0 0 →
      scan_from pattern (text width t) none ≡ Ok (record { left = length t; numbers = push none width })
  front_scan width t small begun =
      bytes_step v (32 ∷ (ascii "as" ++ (32 ∷ (w ++ (32 ∷ width_p))))) (32 ∷ (ascii "as" ++ (32 ∷ (w ++ (32 ∷ width_t width t))))) none plain-v
      ∙ gap_step (ascii "as" ++ (32 ∷ (w ++ (32 ∷ width_p)))) (ascii "as" ++ (32 ∷ (w ++ (32 ∷ width_t width t)))) none (omega arith)
      ∙ bytes_step (ascii "as") (32 ∷ (w ++ (32 ∷ width_p))) (32 ∷ (w ++ (32 ∷ width_t width t))) none refl
      ∙ gap_step (w ++ (32 ∷ width_p)) (w ++ (32 ∷ width_t width t)) none (begins-w (32 ∷ width_t width t))
      ∙ bytes_step w (32 ∷ width_p) (32 ∷ width_t width t) none plain-w
      ∙ width_scan width t small begun

  -- The text in front of the names, and the names with what stands behind.
  abbrev head : ℕ → List ℕ
  head width = v ++ (32 ∷ (ascii "as" ++ (32 ∷ (w ++ (32 ∷ (ascii "width" ++ (32 ∷ (decimal 3 width ++ (44 ∷ 32 ∷ [])))))))))

  split : (width : ℕ) (t : List ℕ) → text width t ≡ head width ++ t
  split width t = sym (simp append_assoc)

  pub access_item_holds : (writes supervisor : Bool) (width offset value : ℕ) → width < 128 → offset < 65536 → value < 4294967296 →
      access_item writes supervisor pattern (text width (registers width offset ++ (ascii " at " ++ rest writes offset value)))
      ≡ made writes supervisor width offset value
  unfolding access_item
  access_item_holds writes supervisor width offset value few small fits =
      let t = registers width offset ++ (ascii " at " ++ rest writes offset value) in
      let same : width % 128 ≡ width = omega arith in
      let left : drop (length (text width t) - length t) (text width t) ≡ t =
      ap (λ (x : List ℕ). drop (length x - length t) x) (split width t) ∙ suffix (head width) t in
      rw (front_scan width t few (registers_first width offset (ascii " at " ++ rest writes offset value)), left, same)
      (named_item writes supervisor width offset value small fits)

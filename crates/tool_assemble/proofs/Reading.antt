-- The definitions of reading, one byte further on. Assumes nothing.
use mathlib.Core.Path.{◌≡◌, refl}
use mathlib.Core.Bool.{Bool, true, false, cond, ◌&&◌}
use mathlib.Core.List.{List, [], ◌∷◌}
use Prim.Native.Nat.{ℕ, zero, suc, ◌+◌, ◌-◌, ◌*◌, ◌≤◌, ◌<◌}
use native.Mathlib.Numerals.{add-one}
use native.Mathlib.Omega.{arith}
use lib.Dec.{eqb, ltb}
use lib.ListN.{length, take, drop, get_or, length-append, length-drop}
use lib.Seq.{drop-cons, drop-length, take_all, take-append_seam}
use borrow.Author.Tests.{ltb-true}
use Rattle.std.specs.Prelude.{None, Ok}
use Rattle.std.specs.List.{starts_with}
use Rattle.tool_assemble.specs.Scan.{is_blank, blanks_from, digit_of, takes, digits, bytes, number, limit, numeral, literal, commented, closed, element, onward, scan_from}
use Rattle.text.specs.Line.{room, Shows}
use Rattle.text.specs.declared.line.Line.{Line}
use Rattle.text.specs.Register.{registers}
use Rattle.text.specs.Record.{event, place}
use Rattle.text.proofs.Lengths.{record_fits}
use Rattle.qsm.specs.declared.event.Access.TheVariants.{Read}
use Rattle.qsm.specs.declared.event.Event.TheVariants as events
use Rattle.tool_assemble.specs.declared.names.Offset.TheVariants.{Nowhere}
use Rattle.tool_assemble.specs.Names.{stops, name_from, begins, at_offset, joined, sought}
use Rattle.tool_assemble.specs.Item.{colon, fronted_from}
use Rattle.tool_assemble.specs.Sent.{character, quoted_on, quoted}
use Rattle.tool_assemble.specs.declared.scan.Numbers.{Numbers}

pub end : (t : List ℕ) (i : ℕ) → length t ≤ i → i ≤ length t → drop i t ≡ []
end t i least most = let all : i ≡ length t = omega arith in rw (all, drop-length)

-- A part of a text that goes to its end.
pub rest : (t : List ℕ) (i : ℕ) → take (length t - i) (drop i t) ≡ drop i t
rest t i = take_all (length t - i) (drop i t) (simp length-drop (omega arith))

pub part_length : (t : List ℕ) (i : ℕ) → length (take (length t - i) (drop i t)) ≡ length t - i
part_length t i = rw rest (length-drop i t)

pub blanks_at : (t : List ℕ) (i : ℕ) → i < length t →
    blanks_from i (drop i t) ≡ cond (is_blank (get_or t i 0)) (blanks_from (i + 1) (drop (i + 1) t)) i
unfolding blanks_from
blanks_at t i h = rw (add-one, drop-cons t i 0 h)

pub blanks_end : (i : ℕ) → blanks_from i [] ≡ i
unfolding blanks_from
blanks_end i = refl

both : (p q : Bool) → cond p q false ≡ true → q ≡ true
both true q h = h
both false q h = let z : ◌≡◌ {A = ℕ} 0 1 = cc in absurd (omega arith)

pub takes_below : (base most n b : ℕ) → takes base most n b ≡ true → n * base + digit_of b < most
unfolding takes
takes_below base most n b h = ltb-true (n * base + digit_of b) most (both (ltb (digit_of b) base) _ h)

pub digits_at : (base most n : ℕ) (t : List ℕ) (i : ℕ) → i < length t →
    digits base most n i (drop i t)
    ≡ cond (takes base most n (get_or t i 0)) (digits base most (n * base + digit_of (get_or t i 0)) (i + 1) (drop (i + 1) t)) (record { value = n; length = i })
unfolding digits
digits_at base most n t i h = rw (add-one, drop-cons t i 0 h)

pub digits_end : (base most n i : ℕ) → digits base most n i [] ≡ record { value = n; length = i }
unfolding digits
digits_end base most n i = refl

-- A text that the test of emptiness refuses.
pub some_left : (t : List ℕ) (empty : Bool) → empty ≡ eqb (length t) 0 → empty ≡ false → 0 < length t
some_left [] empty is not_empty = let z : ◌≡◌ {A = ℕ} 0 1 = cc in absurd (omega arith)
some_left (b ∷ t) empty is not_empty = omega arith

pub numeral_none : (c : ℕ) (t : List ℕ) → length t ≡ 0 → numeral c t ≡ None
unfolding numeral
numeral_none c [] h = refl
numeral_none c (b ∷ t) h = absurd (omega arith)

pub numeral_some : (c : ℕ) (t : List ℕ) → 0 < length t →
    numeral c t
    ≡ cond (eqb (get_or t 0 0) 36) (number 1 (digits 16 (limit c) 0 0 (drop 1 t)))
    (cond (eqb (get_or t 0 0) 38) (number 1 (digits 10 (limit c) 0 0 (drop 1 t)))
    (cond (ltb c 4) (number 0 (digits 16 (limit c) 0 0 t)) (number 0 (digits 10 (limit c) 0 0 t))))
unfolding numeral
numeral_some c [] h = absurd (omega arith)
numeral_some c (b ∷ t) h = refl

pub literal_none : (c : ℕ) (t : List ℕ) → length t ≡ 0 → literal c t ≡ None
unfolding literal
literal_none c [] h = refl
literal_none c (b ∷ t) h = absurd (omega arith)

pub literal_some : (c : ℕ) (t : List ℕ) → 0 < length t → literal c t ≡ cond (eqb (get_or t 0 0) c) (bytes 1) None
unfolding literal
literal_some c [] h = absurd (omega arith)
literal_some c (b ∷ t) h = refl

pub closed_none : (n : ℕ) (t : List ℕ) (i : ℕ) → length t ≤ i → i ≤ length t → closed n (drop i t) ≡ bytes n
unfolding closed
closed_none n t i least most = rw (end t i least most)

pub closed_some : (n : ℕ) (t : List ℕ) (i : ℕ) → i < length t → closed n (drop i t) ≡ commented (get_or t i 0) n
unfolding closed
closed_some n t i h = rw (drop-cons t i 0 h)

pub scan_at : (cs : List ℕ) (i : ℕ) (t : List ℕ) (n : Numbers) → i < length cs →
    scan_from (drop i cs) t n ≡ onward (element (get_or cs i 0) t) (scan_from (drop (i + 1) cs)) t n
unfolding scan_from
scan_at cs i t n h = rw (add-one, drop-cons cs i 0 h)

pub scan_end : (t : List ℕ) (n : Numbers) → scan_from [] t n ≡ Ok (record { left = length t; numbers = n })
unfolding scan_from
scan_end t n = refl

pub name_at : (t : List ℕ) (i : ℕ) → i < length t → name_from i (drop i t) ≡ cond (stops (drop i t)) i (name_from (i + 1) (drop (i + 1) t))
unfolding name_from
name_at t i h = rw (add-one, drop-cons t i 0 h)

pub name_end : (i : ℕ) → name_from i [] ≡ i
unfolding name_from
name_end i = refl

and_is : (p q : Bool) → cond p q false ≡ p && q
and_is true q = refl
and_is false q = refl

-- A text begins with a word, by the library's word for it.
pub begins_is : (ws t : List ℕ) → begins ws t ≡ starts_with eqb t ws
unfolding begins
begins_is [] t = refl
begins_is (w ∷ ws) [] = refl
begins_is (w ∷ ws) (b ∷ t) = rw (begins_is ws t) (and_is (eqb w b) (starts_with eqb t ws))

pub fronted_at : (t : List ℕ) (i : ℕ) → i < length t →
    fronted_from i (drop i t)
    ≡ cond (ltb 9 (digit_of (get_or t i 0))) (colon (get_or t i 0) i) (fronted_from (i + 1) (drop (i + 1) t))
unfolding fronted_from
fronted_at t i h = rw (add-one, drop-cons t i 0 h)

pub fronted_end : (i : ℕ) → fronted_from i [] ≡ 0
unfolding fronted_from
fronted_end i = refl

pub quoted_none : (at : ℕ) (t : List ℕ) → quoted 0 at t ≡ at
unfolding quoted
quoted_none at t = refl

pub quoted_at : (more at : ℕ) (t : List ℕ) → 0 < more →
    quoted more at t ≡ quoted_on (character (drop at t)) at (λ n. quoted (more - 1) n t)
unfolding quoted
quoted_at zero at t h = absurd (omega arith)
quoted_at (suc more) at t h = let less : suc more - 1 ≡ more = omega arith in rw less

-- ---- names

pub names_fit : (width offset : ℕ) → length (registers width offset) ≤ room
unfolding event place
names_fit width offset = omega (arith, simp length-append at (record_fits 0 3 (events.Access (Read true width offset))))

pub sought_none : (width : ℕ) (t : List ℕ) (k : ℕ) → sought width t k 0 ≡ Nowhere
unfolding sought
sought_none width t k = refl

pub sought_more : (width : ℕ) (t : List ℕ) (k n : ℕ) → sought width t k (n + 1) ≡ joined (at_offset width n t k) n (sought width t k n)
unfolding sought
sought_more width t k n = rw add-one

module _ (l : Line) (t : List ℕ) (shows : Shows l t) where
  pub shown_length : l.length ≡ length t
  shown_length = rw shows.line

  pub shown_take : take l.length l.bytes ≡ t
  shown_take = rw (shows.line, take-append_seam)

  pub shown_within : l.length ≤ length l.bytes
  shown_within = rw shows.line (simp length-append (omega arith))

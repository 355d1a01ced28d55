-- Refusals 1 and 2 and privilege: the module's tests of words are the table's tests of bytes. Assumes nothing.
use mathlib.Core.Path.{◌≡◌, refl, sym, ◌∙◌}
use mathlib.Core.Bool.{Bool, true, false, not, ◌&&◌, ◌||◌}
use Prim.Native.Nat.{ℕ, ◌+◌, ◌/◌, ◌%◌, ◌<◌, ◌≤◌}
use native.Mathlib.Omega.{arith}
use lib.Dec.{eqb, ltb, leb}
use borrow.Author.Tests.{le-leb, lt-leb, ltb-true, ltb-false}
use Rattle.qsm.specs.model.Map.{decode, mapped}
use Rattle.qsm.specs.model.Map as map
use Rattle.qsm.specs.model.Lanes.{in_map, is_restricted}
use Rattle.qsm.specs.model.Decision.{shaped, fits, barred}
use Rattle.qsm.specs.declared.state.Module.{Module}
use Rattle.qsm.proofs.Ranges.{by_words, at_word_holds, past_map}
use Rattle.claims_refusals.specs.Refusals.{touches, misshapen, malformed, hole, unmapped, restricted, unprivileged}
use Rattle.claims_refusals.proofs.Tests.{widths, odd, even, at_or_above, every, every_at, same, same_eq, or_true, absurd_bool}

-- ---- refusal 1

pub misshapen_is : (w o : ℕ) → misshapen w o ≡ not (shaped w o)
misshapen_is w o =
    widths (λ w. misshapen w o ≡ not (shaped w o)) w refl (odd o) (odd o) (λ a b c. simp (a, b, c))

not_both : (e f x y : Bool) → x ≡ not e → y ≡ not f → x || y ≡ not (e && f)
not_both true f x y h k = simp (h, k)
not_both false f x y h k = simp h

pub malformed_is : (w o v : ℕ) → malformed w o v ≡ not (shaped w o && fits w v)
malformed_is w o v =
    widths (λ w. malformed w o v ≡ not (shaped w o && fits w v)) w (at_or_above 256 v)
    (not_both (eqb (o % 2) 0) (ltb v 65536) (eqb (o % 2) 1) (leb 65536 v) (odd o) (at_or_above 65536 v))
    (not_both (eqb (o % 2) 0) (ltb v 4294967296) (eqb (o % 2) 1) (leb 4294967296 v) (odd o) (at_or_above 4294967296 v))
    (λ a b c. simp (a, b, c))

-- ---- the map by bytes

holes_small : every (λ b. same (hole b) (not (mapped (decode b)))) 0x150 ≡ true
unfolding decode
holes_small = refl

restricted_small : every (λ b. same (restricted b) (map.restricted (decode b))) 0x150 ≡ true
unfolding decode
restricted_small = refl

above_map : (b : ℕ) → 0x150 ≤ b → mapped (decode b) ≡ false
above_map b h = rw (past_map b h)

above_restricted : (b : ℕ) → 0x150 ≤ b → map.restricted (decode b) ≡ false
above_restricted b h = rw (past_map b h)

hole_by : (t : Bool) (b : ℕ) → ltb b 0x150 ≡ t → hole b ≡ not (mapped (decode b))
hole_by true b is =
    same_eq (hole b) (not (mapped (decode b)))
    (every_at (λ b. same (hole b) (not (mapped (decode b)))) 0x150 holes_small b (ltb-true b 0x150 is))
hole_by false b is =
    let above : 0x150 ≤ b = ltb-false b 0x150 is in
    simp (above_map b above, le-leb 0x150 b above, or_true)

hole_is : (b : ℕ) → hole b ≡ not (mapped (decode b))
hole_is b = hole_by (ltb b 0x150) b refl

restricted_by : (t : Bool) (b : ℕ) → ltb b 0x150 ≡ t → restricted b ≡ map.restricted (decode b)
restricted_by true b is =
    same_eq (restricted b) (map.restricted (decode b))
    (every_at (λ b. same (restricted b) (map.restricted (decode b))) 0x150 restricted_small b (ltb-true b 0x150 is))
restricted_by false b is =
    let above : 0x150 ≤ b = ltb-false b 0x150 is in
    simp (above_restricted b above, lt-leb b 1 (omega arith), lt-leb b 5 (omega arith), le-leb 4 b (omega arith), le-leb 0 b (omega arith))

restricted_is : (b : ℕ) → restricted b ≡ map.restricted (decode b)
restricted_is b = restricted_by (ltb b 0x150) b refl

-- The two bytes of a word are in one place.
pub beside : (o : ℕ) → o % 2 ≡ 0 → decode (o + 1) ≡ decode o
beside o h = let e : (o + 1) / 2 ≡ o / 2 = omega arith in at_word_holds (o / 2) (o + 1) e ∙ sym (by_words o)

two_on : (o : ℕ) → o + 1 + 1 ≡ o + 2
two_on o = omega arith

-- ---- refusal 2

one_hole : (a : Bool) → not a || false ≡ not (a && true)
one_hole true = refl
one_hole false = refl

two_holes : (a : Bool) → not a || (not a || false) ≡ not (a && true)
two_holes true = refl
two_holes false = refl

four_holes : (a b : Bool) → not a || (not a || (not b || (not b || false))) ≡ not (a && b)
four_holes true true = refl
four_holes true false = refl
four_holes false b = refl

pub unmapped_is : (w o : ℕ) → shaped w o ≡ true → unmapped w o ≡ not (in_map w o)
unfolding in_map
unmapped_is w o =
    widths (λ w. shaped w o ≡ true → unmapped w o ≡ not (in_map w o)) w
    (λ h. rw (hole_is o) (one_hole (mapped (decode o))))
    (λ h. rw (hole_is o, hole_is (o + 1), beside o (even o h)) (two_holes (mapped (decode o))))
    (λ h.
    let e : (o + 2) % 2 ≡ 0 = omega (arith, even o h) in
    rw (two_on o, hole_is o, hole_is (o + 1), beside o (even o h), hole_is (o + 2), hole_is (o + 2 + 1), beside (o + 2) e)
    (four_holes (mapped (decode o)) (mapped (decode (o + 2)))))
    (λ a b c h. absurd_bool (sym (simp (a, b, c)) ∙ h))

-- ---- privilege

two_same : (a : Bool) → a || false ≡ a || (a || false)
two_same true = refl
two_same false = refl

four_same : (a b : Bool) → a || b ≡ a || (a || (b || (b || false)))
four_same true b = refl
four_same false true = refl
four_same false false = refl

restricted_word : (w o : ℕ) → shaped w o ≡ true → is_restricted w o ≡ touches restricted o w
unfolding is_restricted
restricted_word w o =
    widths (λ w. shaped w o ≡ true → is_restricted w o ≡ touches restricted o w) w
    (λ h. rw (restricted_is o))
    (λ h. rw (restricted_is o, restricted_is (o + 1), beside o (even o h)) (two_same (map.restricted (decode o))))
    (λ h.
    let e : (o + 2) % 2 ≡ 0 = omega (arith, even o h) in
    rw (two_on o, restricted_is o, restricted_is (o + 1), beside o (even o h), restricted_is (o + 2), restricted_is (o + 2 + 1), beside (o + 2) e)
    (four_same (map.restricted (decode o)) (map.restricted (decode (o + 2)))))
    (λ a b c h. absurd_bool (sym (simp (a, b, c)) ∙ h))

pub unprivileged_is : (m : Module) (s : Bool) (w o : ℕ) → shaped w o ≡ true → unprivileged m s w o ≡ barred m s w o
unprivileged_is m s w o h = rw (restricted_word w o h)

-- A place in the map is below 150.
pub in_map_below : (b : ℕ) → mapped (decode b) ≡ true → b < 0x150
in_map_below b h = by (ltb b 0x150) refl
  where
    by : (t : Bool) → ltb b 0x150 ≡ t → b < 0x150
    by true is = ltb-true b 0x150 is
    by false is = absurd_bool (sym (above_map b (ltb-false b 0x150 is)) ∙ h)

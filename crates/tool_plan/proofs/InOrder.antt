-- The numbered writes in order. Assumes nothing.
use mathlib.Core.Path.{◌≡◌, refl, sym, ap, ◌∙◌}
use mathlib.Core.Bool.{true, false}
use mathlib.Core.List.{List, [], ◌∷◌, ◌++◌, append_assoc}
use Prim.Native.Nat.{ℕ, zero, suc, ◌+◌, ◌-◌, ◌*◌, ◌/◌, ◌%◌, ◌≤◌, ◌<◌}
use native.Mathlib.Omega.{arith}
use borrow.Author.Tests.{le-leb, lt-leb}
use Rattle.qsm.specs.declared.event.Event.{Event}
use Rattle.tool_plan.specs.Loading.{writing, entries_written}
use Rattle.tool_plan.specs.Writes.{entries_of, entry_write, register_write, write_at, or_none, write_no, first_writes, InOrder}
use Rattle.tool_plan.specs.declared.Plan.{Plan}
use Rattle.tool_plan.specs.declared.load.HostWrite.{HostWrite}

abbrev event : HostWrite → Event
event w = writing w.width w.offset w.value

module _ (p : Plan) where
  word_of : (k : ℕ) → k < entries_of p → write_no p (k * 2) ≡ entry_write p k true
  unfolding write_no write_at
  word_of k less =
      let half : k * 2 / 2 ≡ k = omega arith in
      let even : k * 2 % 2 ≡ 0 = omega arith in
      rw (lt-leb (entries_of p * 2) (k * 2) (omega arith), half, even)

  byte_of : (k : ℕ) → k < entries_of p → write_no p (suc (k * 2)) ≡ entry_write p k false
  unfolding write_no write_at
  byte_of k less =
      let half : suc (k * 2) / 2 ≡ k = omega arith in
      let odd : suc (k * 2) % 2 ≡ 1 = omega arith in
      rw (lt-leb (entries_of p * 2) (suc (k * 2)) (omega arith), half, odd)

  register_of : (j : ℕ) → write_no p (j + entries_of p * 2) ≡ or_none (register_write p j)
  unfolding write_no write_at
  register_of j =
      let back : j + entries_of p * 2 - entries_of p * 2 ≡ j = omega arith in
      rw (le-leb (entries_of p * 2) (j + entries_of p * 2) (omega arith), back)

  entries : (k : ℕ) → k ≤ entries_of p → first_writes p (k * 2) ≡ entries_written p k
  unfolding first_writes entries_written
  entries zero less = refl
  entries (suc k) less =
      let two : suc k * 2 ≡ suc (suc (k * 2)) = omega arith in
      ap (first_writes p) two
      ∙ append_assoc (first_writes p (k * 2)) (event (write_no p (k * 2)) ∷ []) (event (write_no p (suc (k * 2))) ∷ [])
      ∙ ap (λ (es : List Event). es ++ (event (write_no p (k * 2)) ∷ event (write_no p (suc (k * 2))) ∷ [])) (entries k (omega arith))
      ∙ ap (λ (w : HostWrite). entries_written p k ++ (event w ∷ event (write_no p (suc (k * 2))) ∷ [])) (word_of k less)
      ∙ ap (λ (w : HostWrite). entries_written p k ++ (event (entry_write p k true) ∷ event w ∷ [])) (byte_of k less)

pub in_order : InOrder
unfolding first_writes
in_order p few =
    let n : ℕ = entries_of p * 2 in
    let all : entries_of p ≡ p.count = omega arith in
    let three : n + 3 ≡ suc (suc (suc n)) = omega arith in
    let e₀ : 0 + n ≡ n = omega arith in
    let e₁ : 1 + n ≡ suc n = omega arith in
    let e₂ : 2 + n ≡ suc (suc n) = omega arith in
    ap (first_writes p) three
    ∙ ap (λ (es : List Event). ((es ++ (event (write_no p n) ∷ [])) ++ (event (write_no p (suc n)) ∷ [])) ++ (event (write_no p (suc (suc n))) ∷ []))
    (entries p (entries_of p) (omega arith) ∙ ap (entries_written p) all)
    ∙ ap (λ (w : HostWrite). ((entries_written p p.count ++ (event w ∷ [])) ++ (event (write_no p (suc n)) ∷ [])) ++ (event (write_no p (suc (suc n))) ∷ []))
    (ap (write_no p) (sym e₀) ∙ register_of p 0)
    ∙ ap (λ (w : HostWrite). ((entries_written p p.count ++ (event (or_none (register_write p 0)) ∷ [])) ++ (event w ∷ [])) ++ (event (write_no p (suc (suc n))) ∷ []))
    (ap (write_no p) (sym e₁) ∙ register_of p 1)
    ∙ ap (λ (w : HostWrite). ((entries_written p p.count ++ (event (or_none (register_write p 0)) ∷ [])) ++ (event (or_none (register_write p 1)) ∷ [])) ++ (event w ∷ []))
    (ap (write_no p) (sym e₂) ∙ register_of p 2)
    ∙ simp append_assoc

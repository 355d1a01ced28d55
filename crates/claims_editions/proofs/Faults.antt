-- Behind records in order, the first bytes that are no such record give the buffer's refusal. Assumes nothing.
use mathlib.Core.Path.{◌≡◌, refl, sym, ap, ◌∙◌}
use mathlib.Core.Bool.{Bool, true, false}
use mathlib.Core.List.{List, [], ◌∷◌, ◌++◌}
use Prim.Native.Nat.{ℕ, zero, suc, ◌+◌, ◌-◌, ◌≤◌, ◌<◌, min}
use native.Mathlib.Omega.{arith}
use lib.Dec.{ltb}
use lib.ListN.{length, take, drop, length-append, length-take, length-drop}
use lib.Seq.{take-add, take_all, take-append-add, drop-append-le}
use borrow.Author.Tests.{ltb-true, ltb-false, lt-ltb, le-leb, ne_eqb}
use Rattle.tool_editions.specs.Records.{size_of, parsed}
use Rattle.tool_editions.specs.Refusals.{number}
use Rattle.tool_editions.specs.Rules.{refusal_of}
use Rattle.tool_editions.specs.Contents.{Reading, holds, refuses, turn, read_for, read_all, past_end, contents}
use Rattle.tool_editions.specs.Editions.{changed_by, changed, asked_by, asked}
use Rattle.tool_editions.specs.Laws.{Kept, answer, after_all, fresh, Fits}
use Rattle.tool_editions.specs.declared.records.Record.{Record}
use Rattle.tool_editions.specs.declared.records.Unreadable.{Unreadable}
use Rattle.tool_editions.specs.declared.records.Unreadable.TheVariants.{Unknown, Cut}
use Rattle.tool_editions.specs.declared.refusals.Refusal.{Refusal}
use Rattle.tool_editions.specs.declared.refusals.Refusal.TheVariants.{BadRecord, CutRecord}
use Rattle.std.specs.Prelude.{Result, Ok, Err}
use Rattle.tool_editions.proofs.Shapes.{shaped, parsed_of, size_within, size_positive, extended}
use Rattle.tool_editions.proofs.Ordered.{Reads, none, more, reads_of}
use Rattle.tool_editions.proofs.Putting.{bytes_parsed}
use Rattle.claims_editions.specs.History.{taken, layout}
use Rattle.claims_editions.specs.Faults.{Refuses, Sees, Faulty, FirstFault}
use Rattle.claims_editions.proofs.Running.{Running, running, bytes_are, layout_length}
use Rattle.claims_editions.proofs.History.{answer_is}

never : {why : Refusal} {ts : List Record} → refuses why ≡ holds ts → ⊥
never e = let z : ◌≡◌ {A = ℕ} 0 1 = cc in omega arith

-- ---- reading on behind records in order

record Resumed (n : ℕ) (rs : List Record) (v : List ℕ) (ts : List Record) (w : List ℕ) : Type 0 where
  left : ℕ
  enough : length w ≤ left
  is : read_for n rs v ≡ read_for left ts w

resumed : {rs : List Record} {v : List ℕ} {ts : List Record} (w : List ℕ) → Reads rs v ts → (n : ℕ) → length (v ++ w) ≤ n → Resumed n rs (v ++ w) ts w
unfolding read_for
resumed {rs} {v} {ts} w (none is same) n enough =
    rw (is, same) (record { left = n; enough = rw is at enough; is = refl })
resumed {rs} {v} {ts} w (more r is ok after) zero enough =
    absurd (omega (arith, size_positive r, size_within v (shaped v is), length-append v w, enough))
resumed {rs} {v} {ts} w (more r is ok after) (suc n) enough =
    let shape = shaped v is in
    let some : length (v ++ w) ≡ 0 → ⊥ = λ z. omega (arith, size_positive r, size_within v shape, length-append v w, z) in
    let shorter : length (drop (size_of r) v ++ w) ≤ n =
    simp (length-append, length-drop) (omega (arith, size_positive r, size_within v shape, length-append v w, enough)) in
    let on = resumed w after n shorter in
    record {
      left = on.left;
      enough = on.enough;
      is =
          rw (ne_eqb (length (v ++ w)) 0 some, parsed_of (v ++ w) (extended v w shape), ok, drop-append-le (size_of r) v w (size_within v shape)) on.is;
    }

-- What stands at the start of w decides.
at_once : (left : ℕ) (ts : List Record) (w : List ℕ) {c : Reading} → 0 < length w → length w ≤ left → ((on : List Record → List ℕ → Reading) → turn on ts w (parsed w) ≡ c)
    → read_for left ts w ≡ c
unfolding read_for
at_once zero ts w some enough h = absurd (omega arith)
at_once (suc left) ts w some enough h = rw (ne_eqb (length w) 0 (λ z. omega arith)) (h (read_for left))

-- ---- what stands at the start

record Begins (x n : ℕ) (l : List ℕ) : Type 0 where
  rest : List ℕ
  is : take n l ≡ x ∷ rest

begins : (x : ℕ) (l : List ℕ) (n : ℕ) → 1 ≤ n → Begins x n (x ∷ l)
begins x l zero h = absurd (omega arith)
begins x l (suc n) h = record { rest = take n l; is = refl }

unknown_here : (x : ℕ) (l : List ℕ) → (x ≡ 0x21 → ⊥) → (x ≡ 0x22 → ⊥) → parsed (x ∷ l) ≡ Err Unknown
unfolding parsed
unknown_here x l a b = rw (ne_eqb (length (x ∷ l)) 0 (λ z. omega arith), ne_eqb x 0x21 a, ne_eqb x 0x22 b)

edition_cut : (l : List ℕ) → length (0x21 ∷ l) < 11 → parsed (0x21 ∷ l) ≡ Err Cut
unfolding parsed
edition_cut l h = rw (ne_eqb (length (0x21 ∷ l)) 0 (λ z. omega arith), lt-ltb (length (0x21 ∷ l)) 11 h)

withdrawal_cut : (l : List ℕ) → length (0x22 ∷ l) < 3 → parsed (0x22 ∷ l) ≡ Err Cut
unfolding parsed
withdrawal_cut l h = rw (ne_eqb (length (0x22 ∷ l)) 0 (λ z. omega arith), lt-ltb (length (0x22 ∷ l)) 3 h)

record_here : (r : Record) (l : List ℕ) → Fits r → parsed (layout r ++ l) ≡ Ok r
record_here r l fits = parsed_of (layout r ++ l) (extended (layout r) l (shaped (layout r) (rw (bytes_are r fits) at (bytes_parsed r fits))))

turned : (p : Result Record Unreadable) (ts : List Record) (w : List ℕ) {c : Reading} → parsed w ≡ p → ((on : List Record → List ℕ → Reading) → turn on ts w p ≡ c)
    → (on : List Record → List ℕ → Reading) → turn on ts w (parsed w) ≡ c
turned p ts w is h on = rw is (h on)

-- ---- the buffer

module _ (b : List ℕ) (used : ℕ) (ps : List Record) where
  record Within : Type 0 where
    inside : used ≤ length b
    reads : Reads [] (take used b) ps

  within : (t : Bool) → ltb (length b) used ≡ t → contents b used ≡ holds ps → Within
  unfolding contents
  within true is held = absurd (never (rw is at held))
  within false is held = record { inside = ltb-false _ _ is; reads = reads_of (take used b) (rw is at held) }

module _ (ps : List Record) (k : Kept) (g : Running ps k) (longer : ℕ) where
  abbrev b : List ℕ
  b = k.buffer

  abbrev behind : List ℕ
  behind = drop k.used b

  reaches : Within b k.used ps
  reaches = within b k.used ps (ltb (length b) k.used) refl g.held

  refusing : {why : Refusal} → contents b longer ≡ refuses why → Refuses (number why) (record { buffer = b; used = longer })
  unfolding changed asked
  refusing is =
      record {
        changes = λ r. ap (λ (c : Reading). (changed_by b longer r c).refusal) is;
        gets = λ n. ap (λ (c : Reading). (asked_by false n c).refusal) is;
        newests = ap (λ (c : Reading). (asked_by true 0 c).refusal) is;
      }

  -- The bytes that are seen behind.
  abbrev count : ℕ
  count = min longer (length b) - k.used

  abbrev seen : List ℕ
  seen = take count behind

  seen_length : Sees k behind longer 1 → length seen ≡ count
  seen_length s = length-take count behind ∙ rw (length-drop k.used b) (omega (arith, s))

  -- The bytes in view are those before, and what is seen.
  in_view : Sees k behind longer 1 → take (min longer (length b)) b ≡ take k.used b ++ seen
  in_view s =
      let all : min longer (length b) ≡ k.used + count = omega (arith, s) in
      ap (λ (n : ℕ). take n b) all ∙ take-add k.used count b

  read_on : {why : Refusal} → Sees k behind longer 1 → ((on : List Record → List ℕ → Reading) → turn on ps seen (parsed seen) ≡ refuses why)
      → read_all (take (min longer (length b)) b) ≡ refuses why
  read_on s h =
      rw (in_view s)
      (let on = resumed seen reaches.reads (length (take k.used b ++ seen)) (omega arith) in
      on.is ∙ at_once on.left ps seen (omega (arith, seen_length s, s)) on.enough h)

  by_end : {why : Refusal} (t : Bool) → ltb (length b) longer ≡ t → read_all (take (min longer (length b)) b) ≡ refuses why → contents b longer ≡ refuses why
  unfolding contents
  by_end true is h =
      let past : length b < longer = ltb-true _ _ is in
      let whole : min longer (length b) ≡ length b = omega arith in
      rw is (ap (λ (c : Reading). refuses (past_end c)) (rw (whole, take_all (length b) b (omega arith)) at h))
  by_end false is h =
      let inside : longer ≤ length b = ltb-false _ _ is in
      let whole : min longer (length b) ≡ longer = omega arith in
      rw is (rw whole at h)

  refuses_at : {why : Refusal} → Sees k behind longer 1 → ((on : List Record → List ℕ → Reading) → turn on ps seen (parsed seen) ≡ refuses why)
      → Refuses (number why) (record { buffer = b; used = longer })
  refuses_at s h = refusing (by_end (ltb (length b) longer) refl (read_on s h))

  -- ---- the five faults

  starts_with : (x : ℕ) (rest : List ℕ) → behind ≡ x ∷ rest → Sees k behind longer 1 → Begins x count behind
  starts_with x rest is s = rw is (begins x rest count (omega (arith, s)))

  faulty_refused : (r : Record) → Fits r → (l : List ℕ) → seen ≡ layout r ++ l → (answer k r ≡ 0 → ⊥) → k.used + size_of r ≤ length b
      → (on : List Record → List ℕ → Reading) → turn on ps seen (parsed seen) ≡ refuses BadRecord
  faulty_refused r fits l is ne room =
      let wrong : refusal_of ps true r ≡ 0 → ⊥ = λ z.
      ne (answer_is ps k g r ∙ ap (λ (t : Bool). refusal_of ps t r) (le-leb (k.used + size_of r) (length b) room) ∙ z) in
      turned (Ok r) ps seen (rw is (record_here r l fits)) (λ on. rw (ne_eqb (refusal_of ps true r) 0 wrong))

  all_read : (t : Bool) → ltb (length b) k.used ≡ t → contents b k.used ≡ holds ps → read_all (take k.used b) ≡ holds ps
  unfolding contents
  all_read true is held = absurd (never (rw is at held))
  all_read false is held = rw is at held

  past_its_end : k.used ≡ length b → length b < longer → contents b longer ≡ refuses CutRecord
  unfolding contents
  past_its_end full past =
      let held : read_all b ≡ holds ps =
      rw (full, take_all (length b) b (omega arith)) at (all_read (ltb (length b) k.used) refl g.held) in
      rw (lt-ltb (length b) longer past, held)

  faulty : Faulty k behind longer
  faulty =
      record {
        unknown = λ x rest is s a c.
            let w = starts_with x rest is s in
            refuses_at {why = BadRecord} s (turned (Err Unknown) ps seen (rw w.is (unknown_here x w.rest a c)) (λ on. refl));
        refused = λ r rest fits is s ne.
            let size = layout_length r in
            let l : List ℕ = take (count - length (layout r)) rest in
            let all : count ≡ length (layout r) + (count - length (layout r)) = omega (arith, s) in
            let view : seen ≡ layout r ++ l =
            ap (λ (t : List ℕ). take count t) is ∙ ap (λ (n : ℕ). take n (layout r ++ rest)) all
            ∙ take-append-add (layout r) rest (count - length (layout r)) in
            refuses_at {why = BadRecord} (omega (arith, s, size, size_positive r)) (faulty_refused r fits l view ne (omega (arith, s, size)));
        cut_edition = λ rest is s lacks.
            let w = starts_with 0x21 rest is s in
            let long : length (0x21 ∷ w.rest) ≡ count = sym (ap (λ (l : List ℕ). length l) w.is) ∙ seen_length s in
            let short : length (0x21 ∷ w.rest) < 11 = omega (arith, long, s, lacks) in
            refuses_at {why = CutRecord} s (turned (Err Cut) ps seen (rw w.is (edition_cut w.rest short)) (λ on. refl));
        cut_withdrawal = λ rest is s lacks.
            let w = starts_with 0x22 rest is s in
            let long : length (0x22 ∷ w.rest) ≡ count = sym (ap (λ (l : List ℕ). length l) w.is) ∙ seen_length s in
            let short : length (0x22 ∷ w.rest) < 3 = omega (arith, long, s, lacks) in
            refuses_at {why = CutRecord} s (turned (Err Cut) ps seen (rw w.is (withdrawal_cut w.rest short)) (λ on. refl));
        past_end = λ full past. refusing {why = CutRecord} (past_its_end full past);
      }

pub first_fault : FirstFault
first_fault b rs longer fits = faulty (taken (fresh b) rs) (after_all (fresh b) rs) (running b rs fits) longer

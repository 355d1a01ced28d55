-- Each way out of indexing, held to its definition. Assumes nothing.
use mathlib.Core.Path.{◌≡◌, refl, sym, ap, ◌∙◌}
use mathlib.Core.Bool.{Bool, true, false}
use mathlib.Core.List.{List}
use Prim.Native.Nat.{ℕ, ◌+◌, ◌-◌, ◌/◌, ◌<◌, ◌≤◌, min}
use native.Mathlib.Omega.{arith}
use lib.ListN.{length, take, drop}
use borrow.Author.Tests.{lt-ltb, le-ltb}
use Rattle.tool_index.specs.Records.{records, bytes_of, refusal_at, stop_of}
use Rattle.tool_index.specs.Walk.{start, past, walked, largest, possible, Sound}
use Rattle.tool_index.specs.Marks.{most, marks_for, room, held, fresh, report, indexed_from, mark_for, extended, nowhere, gone_on}
use Rattle.tool_index.specs.declared.walk.Position.{Position}
use Rattle.tool_index.specs.declared.walk.Walked.{Walked}
use Rattle.tool_index.specs.declared.index.Indexed.{Indexed}
use Rattle.tool_index.proofs.Walking.{lent, came, to_the_end}
use Rattle.tool_index.proofs.Marking.{written}

-- A walk from p through t to its end, with `count` marks there.
module _ (p : Position) (t list : List ℕ) (count : ℕ) (s : Sound p (length t)) {w : Walked} (w-is : w ≡ walked p t largest) where
  pub read_within : w.read ≤ length t
  read_within = rw w-is (came p t largest).within

  end_is : w ≡ record { at = past p (records t); read = bytes_of (records t) }
  end_is = w-is ∙ to_the_end p t s

  module _ {stop all new long : ℕ} (stop_is : stop ≡ refusal_at (take (length t - w.read) (drop w.read t))) (all-is : all ≡ marks_for w.at.number)
      (New-is : new ≡ all - count) (long-is : long ≡ min (length list / 2) most) where
    pub new_fresh : new ≡ fresh p t count
    new_fresh = New-is ∙ ap (λ (k : ℕ). k - count) (all-is ∙ ap (λ (x : Walked). marks_for x.at.number) end_is)

    stop_end : stop ≡ stop_of t
    stop_end = stop_is ∙ ap refusal_at (lent t w.read) ∙ ap (λ (x : Walked). refusal_at (drop x.read t)) end_is

    module _ {r : Indexed} {why : ℕ} (r-is : r ≡ record { marks = count + new; records = w.at.number; place = w.at.place; resets = w.at.resets; stop = stop; refusal = why }) where
      given_is : r ≡ report p t count why
      given_is = r-is ∙ rw (new_fresh, stop_end, end_is)

      pub refuses : long < count + new → why ≡ 7 → (list ≡ (indexed_from p t list count).list) × (r ≡ (indexed_from p t list count).given)
      refuses lt z =
          let h : room list < count + fresh p t count = rw (← new_fresh, ← long-is) lt in
          rw (lt-ltb (room list) (count + fresh p t count) h) (refl, given_is ∙ ap (report p t count) z)

      pub grows : count + new ≤ long → why ≡ 0 → {left : List ℕ} → left ≡ written p t count new list
          → (left ≡ (indexed_from p t list count).list) × (r ≡ (indexed_from p t list count).given)
      grows le z is =
          let h : count + fresh p t count ≤ room list = rw (← new_fresh, ← long-is) le in
          rw (le-ltb (room list) (count + fresh p t count) h) (is ∙ rw new_fresh, given_is ∙ ap (report p t count) z)

-- Where the walk of an extension starts.
module _ (t list : List ℕ) (count : ℕ) {long there : ℕ} (long-is : long ≡ min (length list / 2) most) (there_is : there ≡ min count long) where
  pub held_is : held list count ≡ there
  held_is = ap (min count) (sym long-is) ∙ sym there_is

  pub there_fits : there ≤ room list
  there_fits = omega arith

  module _ {p : Position} (p-is : p ≡ mark_for list (held list count) largest) {b : Bool} (b-is : b ≡ possible p (length t)) where
    pub extends : b ≡ true → extended t list count ≡ indexed_from p (take (length t - p.place) (drop p.place t)) list there
    unfolding extended
    extends h = rw (← p-is, ← b-is, h, held_is, lent t p.place)

    pub afresh : b ≡ false → extended t list count ≡ indexed_from start t list 0
    unfolding extended
    afresh h = rw (← p-is, ← b-is, h)

  module _ (p : Position) {b : Bool} (b-is : b ≡ possible p (largest - length t)) where
    pub goes : b ≡ true → gone_on p t list count ≡ indexed_from p t list there
    unfolding gone_on
    goes h = rw (← b-is, h, held_is)

    pub stays : b ≡ false → gone_on p t list count ≡ nowhere p list there
    unfolding gone_on
    stays h = rw (← b-is, h, held_is)

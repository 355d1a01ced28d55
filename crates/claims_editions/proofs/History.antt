-- The answers by history, from what the records that were let say. Assumes nothing.
use mathlib.Core.Path.{◌≡◌, refl, sym, ap, subst, ◌∙◌}
use mathlib.Core.Logic.{◌⊎◌, inl, inr}
use mathlib.Core.Bool.{Bool, true, false, ◌&&◌}
use mathlib.Core.List.{List}
use Prim.Native.Nat.{ℕ, ◌+◌, ◌≤◌, ◌<◌}
use native.Mathlib.Omega.{arith}
use lib.Dec.{eqb, ltb, leb}
use lib.ListN.{length}
use borrow.Author.Tests.{eqb-true, leb-true, leb-false, le-leb, lt-leb, lt-ltb, le-ltb}
use Rattle.qsm.specs.model.Event.{step, does}
use Rattle.tool_editions.specs.Records.{size_of}
use Rattle.tool_editions.specs.Rules.{given, missing, latest_from, latest, last_from, tries, unmodelled, ranked, refusal_of}
use Rattle.tool_editions.specs.Contents.{Reading}
use Rattle.tool_editions.specs.Editions.{decided, changed_by, changed, asked_by, asked, get, newest}
use Rattle.tool_editions.specs.Laws.{Kept, answer, after_all, fresh}
use Rattle.tool_editions.specs.declared.Given.{Given}
use Rattle.tool_editions.specs.declared.records.Edition.{Edition}
use Rattle.tool_editions.specs.declared.records.Record.{Record}
use Rattle.tool_editions.specs.declared.records.Record.TheVariants.{Added, Withdrawn}
use Rattle.tool_editions.proofs.Standing.{Top, nothing, top, top_of}
use Rattle.tool_editions.proofs.Keeping.{not_missing}
use Rattle.claims_editions.specs.History as history
use Rattle.claims_editions.specs.History.{taken, In, WasAdded, WasWithdrawn, Above, NotAbove, NoRoom, Room, three, Adds, Withdraws, Gets, GetsNone, Newest, ByHistory}
use Rattle.claims_editions.proofs.Membership.{was_added}
use Rattle.claims_editions.proofs.Facts.{Facts}
use Rattle.claims_editions.proofs.Running.{Running, running}

-- The four writes are the module's own.
three_is : (e : Edition) → unmodelled e ≡ three e
unfolding unmodelled tries step does
three_is e = refl

right_false : (a : Bool) → a && false ≡ false
right_false true = refl
right_false false = refl

module _ (ps : List Record) (k : Kept) (g : Running ps k) where
  abbrev facts : Facts ps
  facts = g.facts

  -- ---- a call's answer

  abbrev fit : ℕ → Bool
  fit bytes = leb (k.used + bytes) (length k.buffer)

  by_why : (r : Record) (why : ℕ) (t : Bool) → eqb why 0 ≡ t → (decided k.buffer k.used r why).refusal ≡ why
  by_why r why true is = rw is (sym (eqb-true why 0 is))
  by_why r why false is = rw is

  pub answer_is : (r : Record) → answer k r ≡ refusal_of ps (fit (size_of r)) r
  unfolding changed
  answer_is r =
      let why = refusal_of ps (fit (size_of r)) r in
      ap (λ (c : Reading). (changed_by k.buffer k.used r c).refusal) g.held ∙ by_why r why (eqb why 0) refl

  -- ---- the tests

  no_room : (bytes : ℕ) → NoRoom bytes k ps → fit bytes && ltb (length ps) 64 ≡ false
  no_room bytes (inl many) = rw (le-ltb (length ps) 64 many) (right_false (fit bytes))
  no_room bytes (inr short) = rw (lt-leb (k.used + bytes) (length k.buffer) short)

  has_room : (bytes : ℕ) → Room bytes k ps → fit bytes && ltb (length ps) 64 ≡ true
  has_room bytes (few, long) = rw (le-leb (k.used + bytes) (length k.buffer) long, lt-ltb (length ps) 64 few)

  not_above : (n : ℕ) → NotAbove n ps → leb n (last_from 0 ps) ≡ true
  not_above n (inl z) = le-leb n (last_from 0 ps) (omega (arith, z))
  not_above n (inr a) = le-leb n (last_from 0 ps) (omega (arith, a.2, facts.highest a.0 a.1))

  is_above : (n : ℕ) → Above n ps → (last_from 0 ps ≡ 0) ⊎ WasAdded (last_from 0 ps) ps → leb n (last_from 0 ps) ≡ false
  is_above n a (inl z) = lt-leb n (last_from 0 ps) (omega (arith, z, a.0))
  is_above n a (inr w) = lt-leb n (last_from 0 ps) (omega (arith, a.1 w.0 w.1, w.2))

  -- ---- additions

  adds : (e : Edition) → Adds k ps e
  adds e =
      let is : answer k (Added e) ≡ ranked (three e) (leb e.number (last_from 0 ps)) (fit 11 && ltb (length ps) 64) =
      answer_is (Added e) ∙ ap (λ (t : Bool). ranked t (leb e.number (last_from 0 ps)) (fit 11 && ltb (length ps) 64)) (three_is e) in
      record {
        is_3 = λ h. is ∙ rw h;
        is_8 = λ h a. is ∙ rw (h, not_above e.number a);
        is_7 = λ h a r. is ∙ rw (h, is_above e.number a facts.last_is, no_room 11 r);
        is_0 = λ h a r. is ∙ rw (h, is_above e.number a facts.last_is, has_room 11 r);
      }

  -- ---- withdrawals

  standing : (n : ℕ) → WasAdded n ps → (WasWithdrawn n ps → ⊥) → (latest false n ps).refusal ≡ 0
  standing n a w =
      let found = facts.found a.0 a.1 (λ h. w (rw a.2 at h)) in
      ap (λ (x : Given). x.refusal) (rw a.2 at found)

  withdraws : (n : ℕ) → Withdraws k ps n
  withdraws n =
      let is = answer_is (Withdrawn n) in
      record {
        never_added = λ none. is ∙ rw (facts.lost n none);
        already = λ h. is ∙ rw (facts.gone n h).0;
        is_7 = λ a w r. is ∙ rw (standing n a w, no_room 3 r);
        is_0 = λ a w r. is ∙ rw (standing n a w, has_room 3 r);
      }

  -- ---- questions

  get_is : (n : ℕ) → get k.buffer k.used n ≡ latest false n ps
  unfolding asked
  get_is n = ap (λ (c : Reading). asked_by false n c) g.held

  newest_is : newest k.buffer k.used ≡ latest true 0 ps
  unfolding asked
  newest_is = ap (λ (c : Reading). asked_by true 0 c) g.held

  not_withdrawn : (n : ℕ) (e : Edition) → latest false n ps ≡ given e → WasWithdrawn n ps → ⊥
  not_withdrawn n e is h = not_missing e (sym (facts.gone n h).0 ∙ is)

  by_added : (n : ℕ) (e : Edition) → latest false n ps ≡ given e → WasAdded n ps ⊎ (WasAdded n ps → ⊥) → In (Added e) ps × (e.number ≡ n) × (WasWithdrawn n ps → ⊥)
  by_added n e is (inl a) =
      let w = not_withdrawn n e is in
      let found : latest false n ps ≡ given a.0 =
      ap (λ (m : ℕ). latest false m ps) (sym a.2) ∙ facts.found a.0 a.1 (λ h. w (rw a.2 at h)) in
      let same : a.0 ≡ e = ap (λ (x : Given). x.edition) (sym found ∙ is) in
      (subst (λ (x : Edition). In (Added x) ps) same a.1, subst (λ (x : Edition). x.number ≡ n) same a.2, w)
  by_added n e is (inr none) = absurd (not_missing e (sym (facts.lost n none) ∙ is))

  gives : (n : ℕ) (e : Edition) → latest false n ps ≡ given e → In (Added e) ps × (e.number ≡ n) × (WasWithdrawn n ps → ⊥)
  gives n e is = by_added n e is (was_added n ps)

  gets : (e : Edition) → Gets k ps e
  gets e =
      record {
        is_given = λ h w. get_is e.number ∙ facts.found e h w;
        given_only = λ n is. gives n e (sym (get_is n) ∙ is);
      }

  gets_none : (n : ℕ) → GetsNone k ps n
  gets_none n =
      record {
        never_added = λ none. ap (λ (x : Given). x.refusal) (get_is n ∙ facts.lost n none);
        withdrawn = λ h. ap (λ (x : Given). x.refusal) (get_is n ∙ (facts.gone n h).0);
      }

  -- The edition at the top is the one that no other exceeds.
  at_top : (e t : Edition) → latest false e.number ps ≡ given e → latest false t.number ps ≡ given t → t.number ≤ e.number
      → ((g : Given) (n : ℕ) → t.number < n → latest_from g false n ps ≡ g) → (b : Bool) → leb e.number t.number ≡ b → given t ≡ given e
  at_top e t is own below above true le =
      let same : t.number ≡ e.number = omega (arith, below, leb-true e.number t.number le) in
      sym own ∙ ap (λ (n : ℕ). latest false n ps) same ∙ is
  at_top e t is own below above false gt =
      absurd (not_missing e (sym (above (missing 8) e.number (leb-false e.number t.number gt)) ∙ is))

  highest_is : (e : Edition) → latest false e.number ps ≡ given e
      → ((f : Edition) → In (Added f) ps → (WasWithdrawn f.number ps → ⊥) → f.number ≤ e.number) → Top 0 ps → latest true 0 ps ≡ given e
  highest_is e is most (nothing h) = absurd (not_missing e (sym (h (missing 8) false e.number) ∙ is))
  highest_is e is most (top t lt any own above) =
      let told = gives t.number t (own (missing 8)) in
      any (missing 8) 0 ∙ at_top e t is (own (missing 8)) (most t told.0 told.2) above (leb e.number t.number) refl

  none_is : ((f : Edition) → In (Added f) ps → WasWithdrawn f.number ps) → Top 0 ps → (latest true 0 ps).refusal ≡ 8
  none_is all (nothing h) = ap (λ (x : Given). x.refusal) (h (missing 8) true 0)
  none_is all (top t lt any own above) =
      let told = gives t.number t (own (missing 8)) in
      absurd (told.2 (all t told.0))

  newests : Newest k ps
  newests =
      record {
        is_given = λ e h w most. newest_is ∙ highest_is e (facts.found e h w) most (top_of 0 ps facts.order);
        none_left = λ all. ap (λ (x : Given). x.refusal) newest_is ∙ none_is all (top_of 0 ps facts.order);
      }

  told : history.Told k ps
  told =
      record {
        adds = λ e w. adds e;
        withdraws = λ n w. withdraws n;
        gets = gets;
        gets_none = gets_none;
        newests = newests;
        used = g.used;
        bytes = g.bytes;
      }

pub by_history : ByHistory
by_history b rs fits = told (taken (fresh b) rs) (after_all (fresh b) rs) (running b rs fits)

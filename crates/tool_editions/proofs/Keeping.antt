-- The laws of keeping editions. Assumes nothing.
use mathlib.Core.Path.{◌≡◌, refl, sym, ap, ◌∙◌}
use mathlib.Core.Bool.{Bool, true, false, ◌&&◌, not}
use mathlib.Core.List.{List, [], ◌∷◌, ◌++◌}
use Prim.Native.Nat.{ℕ, ◌+◌, ◌≤◌, ◌<◌}
use native.Mathlib.Omega.{arith}
use lib.Dec.{eqb, ltb, leb}
use lib.ListN.{length, take, drop}
use borrow.Author.Tests.{eqb-true, eqb-false, eq-eqb, ne_eqb, leb-true, leb-false, not-false}
use Rattle.tool_editions.specs.Records.{size_of}
use Rattle.tool_editions.specs.Rules.{given, missing, latest_from, last_from, unmodelled, refusal_of, latest}
use Rattle.tool_editions.specs.Contents.{Reading, holds, refuses, contents}
use Rattle.tool_editions.specs.Editions.{asked, asked_by}
use Rattle.tool_editions.specs.Laws.{Kept, answer, after, after_all, Words, Fits, Keeps, GivenBack, NotGiven, NewestIsLargest, OnlyItsRecord, Rising}
use Rattle.tool_editions.specs.declared.Given.{Given}
use Rattle.tool_editions.specs.declared.records.Edition.{Edition}
use Rattle.tool_editions.specs.declared.records.Record.{Record}
use Rattle.tool_editions.specs.declared.records.Record.TheVariants.{Added, Withdrawn}
use Rattle.tool_editions.proofs.Accepting.{no_refusal, last_behind}
use Rattle.tool_editions.proofs.Ordered.{Reads, none, more, reads_of}
use Rattle.tool_editions.proofs.Standing.{Ascending, ascending_added, ascending_withdrawn, above_last, added_behind, other_withdrawn, withdrawn_last, Top, nothing, top, top_of}
use Rattle.tool_editions.proofs.Calls.{Broken, broken, let_of, refusal_changes_nothing}
use Rattle.tool_editions.proofs.Putting.{after_is, put_before, put_behind, put_length}
use Rattle.tool_editions.proofs.Inductions.{Holding, through, same_records}

-- ---- what records in order have

-- An edition that is let is above the last.
pub above : (rs : List Record) (f : Edition) → refusal_of rs true (Added f) ≡ 0 → last_from 0 rs < f.number
above rs f ok = leb-false f.number (last_from 0 rs) (no_refusal (unmodelled f) (leb f.number (last_from 0 rs)) (true && ltb (length rs) 64) ok).1

ascending_behind : (rs : List Record) (r : Record) → Ascending 0 rs → refusal_of rs true r ≡ 0 → Ascending 0 (rs ++ (r ∷ []))
ascending_behind rs (Added f) a ok = ascending_added 0 rs f a (above rs f ok)
ascending_behind rs (Withdrawn m) a ok = ascending_withdrawn 0 rs m a

ascends : {rs : List Record} {v : List ℕ} {ts : List Record} → Reads rs v ts → Ascending 0 rs → Ascending 0 ts
ascends {rs} {v} {ts} (none is same) a = rw same at a
ascends {rs} {v} {ts} (more r is ok after) a = ascends after (ascending_behind rs r a ok)

by_end : (b : List ℕ) (used : ℕ) (rs : List Record) (t : Bool) → ltb (length b) used ≡ t → contents b used ≡ holds rs → Ascending 0 rs
unfolding contents
by_end b used rs true is held = let z : ◌≡◌ {A = ℕ} 0 1 = cc (rw is at held) in absurd (omega arith)
by_end b used rs false is held = ascends (reads_of (take used b) (rw is at held)) tt

pub ascending : (b : List ℕ) (used : ℕ) {rs : List Record} → contents b used ≡ holds rs → Ascending 0 rs
ascending b used {rs} held = by_end b used rs (ltb (length b) used) refl held

-- ---- given back

-- The records are in order, and edition e stands among them.
pub record Stands (e : Edition) (rs : List Record) : Type 0 where
  pub order : Ascending 0 rs
  pub found : latest false e.number rs ≡ given e

pub not_missing : (e : Edition) → missing 8 ≡ given e → ⊥
not_missing e h = let z : ◌≡◌ {A = ℕ} 8 0 = ap (λ (g : Given). g.refusal) h in omega arith

stands_behind : (e : Edition) (rs : List Record) (r : Record) → Stands e rs → Keeps e.number r → refusal_of rs true r ≡ 0 → Stands e (rs ++ (r ∷ []))
stands_behind e rs (Added f) s q ok =
    let higher = above rs f ok in
    let apart : f.number ≡ e.number → ⊥ = λ z.
    not_missing e (sym (above_last 0 e.number (missing 8) rs s.order (omega (arith, z, higher))) ∙ s.found) in
    record {
      order = ascending_behind rs (Added f) s.order ok;
      found = added_behind (missing 8) false e.number rs f ∙ rw (ne_eqb f.number e.number apart) s.found;
    }
stands_behind e rs (Withdrawn m) s q ok =
    record {
      order = ascending_behind rs (Withdrawn m) s.order ok;
      found = other_withdrawn e.number m q (missing 8) rs ∙ s.found;
    }

first_stands : (k : Kept) (e : Edition) → Words e → answer k (Added e) ≡ 0 → Holding (Stands e) (after k (Added e))
first_stands k e w ok =
    let l = let_of k (Added e) ok in
    record {
      records = l.records ++ (Added e ∷ []);
      held = after_is k (Added e) w l;
      have =
          record {
            order = ascending_behind l.records (Added e) (ascending k.buffer k.used l.held) l.right;
            found = added_behind (missing 8) false e.number l.records e ∙ rw (eq-eqb e.number e.number refl);
          };
    }

pub given_back : GivenBack
unfolding asked
given_back k e rs w fits ok keeps =
    let h = through (Stands e) (Keeps e.number) (stands_behind e) (after k (Added e)) rs fits keeps (first_stands k e w ok) in
    rw h.held h.have.found

-- ---- not given again

-- Edition n is no new one, and does not stand.
record Gone (n : ℕ) (rs : List Record) : Type 0 where
  below : n ≤ last_from 0 rs
  lost : latest false n rs ≡ missing 8

pub by_same : (n m : ℕ) (rs : List Record) → latest false n rs ≡ missing 8 → (t : Bool) → eqb m n ≡ t → latest false n (rs ++ (Withdrawn m ∷ [])) ≡ missing 8
by_same n m rs lost true is = rw (eqb-true m n is) (withdrawn_last n (missing 8) rs)
by_same n m rs lost false is = other_withdrawn n m (eqb-false m n is) (missing 8) rs ∙ lost

gone_behind : (n : ℕ) (rs : List Record) (r : Record) → Gone n rs → Fits r → refusal_of rs true r ≡ 0 → Gone n (rs ++ (r ∷ []))
gone_behind n rs (Added f) g fits ok =
    let higher = above rs f ok in
    record {
      below = rw (last_behind 0 rs (Added f)) (omega (arith, g.below, higher));
      lost = added_behind (missing 8) false n rs f ∙ rw (ne_eqb f.number n (λ z. omega (arith, z, g.below, higher))) g.lost;
    }
gone_behind n rs (Withdrawn m) g fits ok =
    record { below = rw (last_behind 0 rs (Withdrawn m)) g.below; lost = by_same n m rs g.lost (eqb m n) refl }

pub standing_below : (n : ℕ) (rs : List Record) → Ascending 0 rs → (latest false n rs).refusal ≡ 0 → (t : Bool) → leb n (last_from 0 rs) ≡ t → n ≤ last_from 0 rs
standing_below n rs a found true is = leb-true n (last_from 0 rs) is
standing_below n rs a found false is =
    let none_there = above_last 0 n (missing 8) rs a (leb-false n (last_from 0 rs) is) in
    let z : ◌≡◌ {A = ℕ} 8 0 = sym (ap (λ (g : Given). g.refusal) none_there) ∙ found in
    absurd (omega arith)

first_gone : (k : Kept) (n : ℕ) → n < 65536 → answer k (Withdrawn n) ≡ 0 → Holding (Gone n) (after k (Withdrawn n))
first_gone k n small ok =
    let l = let_of k (Withdrawn n) ok in
    let rs = l.records in
    let tests = no_refusal false (not (eqb (latest false n rs).refusal 0)) (true && ltb (length rs) 64) l.right in
    let found : (latest false n rs).refusal ≡ 0 = eqb-true (latest false n rs).refusal 0 (not-false (eqb (latest false n rs).refusal 0) tests.1) in
    record {
      records = rs ++ (Withdrawn n ∷ []);
      held = after_is k (Withdrawn n) small l;
      have =
          record {
            below = rw (last_behind 0 rs (Withdrawn n)) (standing_below n rs (ascending k.buffer k.used l.held) found (leb n (last_from 0 rs)) refl);
            lost = withdrawn_last n (missing 8) rs;
          };
    }

pub not_given : NotGiven
unfolding asked
not_given k n rs small fits ok =
    let h = through (Gone n) Fits (gone_behind n) (after k (Withdrawn n)) rs fits fits (first_gone k n small ok) in
    rw h.held (ap (λ (g : Given). g.refusal) h.have.lost)

-- ---- the newest

same_edition : {e f : Edition} → given e ≡ given f → e ≡ f
same_edition h = ap (λ (g : Given). g.edition) h

record Highest (c : Reading) : Type 0 where
  is_given : (e : Edition) → asked_by true 0 c ≡ given e → asked_by false e.number c ≡ given e
  none_above : (e f : Edition) (n : ℕ) → asked_by true 0 c ≡ given e → asked_by false n c ≡ given f → n ≤ e.number
  none_at_all : (n : ℕ) → (asked_by true 0 c).refusal ≡ 8 → (asked_by false n c).refusal ≡ 8

broken_not : {why : ℕ} (e : Edition) → 5 ≤ why → missing why ≡ given e → ⊥
broken_not {why} e h g = let z : why ≡ 0 = ap (λ (x : Given). x.refusal) g in omega arith

not_above : (e f : Edition) (n : ℕ) (rs : List Record) → ((g : Given) (m : ℕ) → e.number < m → latest_from g false m rs ≡ g)
    → latest false n rs ≡ given f → (t : Bool) → leb n e.number ≡ t → n ≤ e.number
not_above e f n rs higher is true t = leb-true n e.number t
not_above e f n rs higher is false t =
    absurd (not_missing f (sym (higher (missing 8) n (leb-false n e.number t)) ∙ is))

highest_top : (rs : List Record) → Top 0 rs → Highest (holds rs)
highest_top rs (nothing h) =
    record {
      is_given = λ e is. absurd (not_missing e (sym (h (missing 8) true 0) ∙ is));
      none_above = λ e f n is other. absurd (not_missing e (sym (h (missing 8) true 0) ∙ is));
      none_at_all = λ n is. ap (λ (g : Given). g.refusal) (h (missing 8) false n);
    }
highest_top rs (top t lt any own higher) =
    record {
      is_given = λ e is. rw (same_edition (sym (any (missing 8) 0) ∙ is)) at (own (missing 8));
      none_above = λ e f n is other.
          let same : t ≡ e = same_edition (sym (any (missing 8) 0) ∙ is) in
          not_above e f n rs (rw same at higher) other (leb n e.number) refl;
      none_at_all = λ n is. let z : ◌≡◌ {A = ℕ} 0 8 = sym (ap (λ (g : Given). g.refusal) (any (missing 8) 0)) ∙ is in absurd (omega arith);
    }

highest : (b : List ℕ) (used : ℕ) (c : Reading) → contents b used ≡ c → Broken c → Highest c
highest b used (holds rs) held br = highest_top rs (top_of 0 rs (ascending b used held))
highest b used (refuses why) held br =
    record {
      is_given = λ e is. absurd (broken_not e br.0 is);
      none_above = λ e f n is other. absurd (broken_not e br.0 is);
      none_at_all = λ n is. is;
    }

pub newest_is_largest : NewestIsLargest
unfolding asked
newest_is_largest k =
    let h = highest k.buffer k.used (contents k.buffer k.used) refl (broken k.buffer k.used) in
    record { is_given = h.is_given; none_above = h.none_above; none_at_all = h.none_at_all }

-- ---- what a call leaves of the buffer

by_let : (k : Kept) (r : Record) (t : Bool) → eqb (answer k r) 0 ≡ t →
    (take k.used (after k r).buffer ≡ take k.used k.buffer)
    × (drop (k.used + size_of r) (after k r).buffer ≡ drop (k.used + size_of r) k.buffer)
    × (length (after k r).buffer ≡ length k.buffer)
by_let k r true is =
    let l = let_of k r (eqb-true _ _ is) in
    rw l.is (put_before k.buffer k.used r l.room, put_behind k.buffer k.used r l.room, put_length k.buffer k.used r l.room)
by_let k r false is =
    let same : (after k r).buffer ≡ k.buffer = ap (λ (x : Kept). x.buffer) (refusal_changes_nothing k r (eqb-false _ _ is)) in
    rw same (refl, refl, refl)

pub only_its_record : OnlyItsRecord
only_its_record k r = by_let k r (eqb (answer k r) 0) refl

-- ---- editions rise

AtLeast : ℕ → List Record → Type 0
AtLeast n rs = n ≤ last_from 0 rs

at_least_behind : (n : ℕ) (rs : List Record) (r : Record) → AtLeast n rs → Fits r → refusal_of rs true r ≡ 0 → AtLeast n (rs ++ (r ∷ []))
unfolding AtLeast
at_least_behind n rs (Added f) h fits ok = rw (last_behind 0 rs (Added f)) (omega (arith, above rs f ok))
at_least_behind n rs (Withdrawn m) h fits ok = rw (last_behind 0 rs (Withdrawn m)) h

added_at_least : (k : Kept) (e : Edition) → Words e → answer k (Added e) ≡ 0 → Holding (AtLeast e.number) (after k (Added e))
unfolding AtLeast
added_at_least k e w ok =
    let l = let_of k (Added e) ok in
    record {
      records = l.records ++ (Added e ∷ []);
      held = after_is k (Added e) w l;
      have = rw (last_behind 0 l.records (Added e)) (omega arith);
    }

pub rising : Rising
unfolding AtLeast
rising k e f rs w fits ok later =
    let h = through (AtLeast e.number) Fits (at_least_behind e.number) (after k (Added e)) rs fits fits (added_at_least k e w ok) in
    let l = let_of (after_all (after k (Added e)) rs) (Added f) later in
    let same : l.records ≡ h.records = same_records l.held h.held in
    omega (arith, h.have, rw same at (above l.records f l.right))

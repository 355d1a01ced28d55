-- Each way out of a change and of a question, held to its definition. Assumes nothing.
use mathlib.Core.Path.{◌≡◌, refl, sym, ap, ◌∙◌}
use mathlib.Core.Bool.{Bool, true, false, not}
use mathlib.Core.List.{List, [], ◌++◌, append-nil}
use Prim.Native.Nat.{ℕ, ◌+◌, ◌-◌, ◌<◌, ◌≤◌}
use native.Mathlib.Omega.{arith}
use lib.Dec.{eqb, ltb, leb}
use lib.ListN.{length, take, drop, length-drop, drop_of_length-le}
use borrow.Rule.Slice.PartMut.{put_mid}
use borrow.Author.Tests.{ltb-true, ltb-false, lt-ltb, le-ltb, le-leb, lt-leb, ne_eqb, leb-true, leb-false}
use Rattle.tool_editions.specs.Records.{size_of, bytes_of, first}
use Rattle.tool_editions.specs.Rules.{last_from, latest, unmodelled, judge, refusal_of}
use Rattle.tool_editions.specs.Contents.{Reading, holds, refuses, read_all, past_end, contents, held}
use Rattle.tool_editions.specs.Editions.{put, changed, answered, Changes}
use Rattle.tool_editions.specs.declared.contents.Held.{Held}
use Rattle.tool_editions.specs.declared.records.Record.{Record}
use Rattle.tool_editions.specs.declared.refusals.Refusal.{Refusal}
use Rattle.std.specs.Prelude.{Ok, Err}
use Rattle.tool_editions.specs.declared.records.Record.TheVariants.{Added, Withdrawn}
use Rattle.tool_editions.proofs.Walking.{rest}
use Rattle.tool_editions.proofs.Accepting.{no_refusal}
use Rattle.tool_editions.proofs.Ordered.{first_of}

pub is_refused : (c : Reading) {why : Refusal} → Err why ≡ held c → c ≡ refuses why
is_refused (holds rs) e = absurd cc
is_refused (refuses other) {why} e = let same : other ≡ why = cc in ap refuses same

-- Records in order, by their numbers.
pub record Ordered (c : Reading) (last count : ℕ) : Type 0 where
  pub records : List Record
  pub is : c ≡ holds records
  pub last_is : last ≡ last_from 0 records
  pub count_is : count ≡ length records

is_held : (c : Reading) {h : Held} → Ok h ≡ held c → Ordered c h.last h.count
is_held (holds rs) {h} e =
    let same : h ≡ record { last = last_from 0 rs; count = length rs } = cc in
    record { records = rs; is = refl; last_is = ap (λ (x : Held). x.last) same; count_is = ap (λ (x : Held). x.count) same }
is_held (refuses why) e = absurd cc

by_numbers : {last count : ℕ} {us rs : List Record} (fits : Bool) (r : Record) → us ≡ rs → last ≡ last_from 0 rs → count ≡ length rs
    → judge last count us fits r ≡ refusal_of us fits r
by_numbers fits r same last_is count_is = rw (same, last_is, count_is)

past_never : {why : Refusal} {rs : List Record} → refuses why ≡ holds rs → ⊥
past_never e = cc

module _ (b : List ℕ) (used : ℕ) where
  pub past : length b < used → contents b used ≡ refuses (past_end (read_all b))
  unfolding contents
  past h = rw (lt-ltb (length b) used h)

  pub within : used ≤ length b → contents b used ≡ read_all (take used b)
  unfolding contents
  within inside = rw (le-ltb (length b) used inside)

  reaches : (t : Bool) → ltb (length b) used ≡ t → {rs : List Record} → contents b used ≡ holds rs → used ≤ length b
  reaches true is e = absurd (past_never (sym (past (ltb-true (length b) used is)) ∙ e))
  reaches false is e = ltb-false (length b) used is

  module _ {h : Held} (e : Ok h ≡ held (contents b used)) where
    ordered : Ordered (contents b used) h.last h.count
    ordered = is_held (contents b used) e

    -- The used length is within the buffer.
    pub inside : used ≤ length b
    inside = reaches (ltb (length b) used) refl ordered.is

    read_is : read_all (take used b) ≡ holds ordered.records
    read_is = sym (within inside) ∙ ordered.is

    pub in_buffer : contents b used ≡ holds (first h.count (take used b))
    in_buffer =
        let o = ordered in
        o.is ∙ ap holds (sym (first_of (take used b) read_is) ∙ ap (λ (n : ℕ). first n (take used b)) (sym o.count_is))

    -- What the walk over the records and the numbers gives is the rule's.
    pub judged_is : (fits : Bool) (r : Record) → judge h.last h.count (first h.count (take used b)) fits r ≡ refusal_of (first h.count (take used b)) fits r
    judged_is fits r =
        let o = ordered in
        by_numbers fits r (ap (λ (n : ℕ). first n (take used b)) o.count_is ∙ first_of (take used b) read_is) o.last_is o.count_is

-- What a change answers and leaves, by what the buffer comes to.
module _ (b : List ℕ) (used : ℕ) (r : Record) where
  pub refuses_as : {why : Refusal} → Err why ≡ held (contents b used) → Changes (changed b used r) (answered used (Err why)) b
  unfolding changed
  refuses_as e = rw (is_refused (contents b used) e) (record { used = refl; refusal = refl; buffer = refl })

  module _ {rs : List Record} {fits : Bool} {x : ℕ} (is : contents b used ≡ holds rs) (fits-is : fits ≡ leb (used + size_of r) (length b)) (x-is : x ≡ refusal_of rs fits r) where
    pub refuses_it : (x ≡ 0 → ⊥) → Changes (changed b used r) (record { used = used; refusal = x }) b
    unfolding changed
    refuses_it ne = rw (is, ← fits-is, ← x-is, ne_eqb x 0 ne) (record { used = refl; refusal = refl; buffer = refl })

    wrote : (part : List ℕ) → part ≡ bytes_of r ++ drop (size_of r) (take (length b - used) (drop used b))
        → put_mid used (length b - used) b part ≡ (put b used r).buffer
    wrote part e =
        let none : drop (length b - used) (drop used b) ≡ [] = drop_of_length-le (drop used b) {i = length b - used} (simp length-drop (omega arith)) in
        simp (none, append-nil, e, rest b used)

    pub puts : x ≡ 0 → {size : ℕ} {part : List ℕ} → size ≡ size_of r → part ≡ bytes_of r ++ drop (size_of r) (take (length b - used) (drop used b))
        → Changes (changed b used r) (record { used = used + size; refusal = 0 }) (put_mid used (length b - used) b part)
    unfolding changed
    puts ok size_is part_is =
        rw (is, ← fits-is, ← x-is, ok)
        (record { used = ap (λ (n : ℕ). used + n) size_is; refusal = refl; buffer = wrote _ part_is })

-- Where a record is let there is room for it.
pub by_record : (last count : ℕ) (rs : List Record) (fits : Bool) (r : Record) → judge last count rs fits r ≡ 0 → fits ≡ true
by_record last count rs true r e = refl
by_record last count rs false (Added a) e = (no_refusal (unmodelled a) (leb a.number last) false e).2
by_record last count rs false (Withdrawn n) e = (no_refusal false (not (eqb (latest false n rs).refusal 0)) false e).2

pub room : (last count size left : ℕ) (rs : List Record) {x : ℕ} (r : Record) → x ≡ judge last count rs (leb size left) r → x ≡ 0 → size ≤ left
room last count size left rs r x-is ok = leb-true size left (by_record last count rs (leb size left) r (sym x-is ∙ ok))

-- Bytes left are bytes up to the end.
by_test : (size used all : ℕ) → used ≤ all → (t : Bool) → leb (used + size) all ≡ t → leb size (all - used) ≡ t
by_test size used all h true e = let reached : used + size ≤ all = leb-true (used + size) all e in le-leb size (all - used) (omega arith)
by_test size used all h false e = let passed : all < used + size = leb-false (used + size) all e in lt-leb size (all - used) (omega arith)

pub left_is : (size used all : ℕ) → used ≤ all → leb size (all - used) ≡ leb (used + size) all
left_is size used all h = by_test size used all h (leb (used + size) all) refl

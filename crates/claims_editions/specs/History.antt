-- Document 02, L6, by the calls that were made on a buffer of which nothing was used: each later call and question answers by which calls were
-- answered 0, and by the room. Nothing here reads a record back from the buffer.
use Rattle.std.specs.Prelude.{◌≡◌, ◌⊎◌, Bool, true, false, cond, ◌||◌, List, [], ◌∷◌, ◌++◌, ℕ, ◌+◌, ◌/◌, ◌%◌, ◌≤◌, ◌<◌, eqb, length, take}
use Rattle.qsm.specs.model.State.{reset_module}
use Rattle.qsm.specs.model.Event.{step}
use Rattle.qsm.specs.declared.state.Module.{Module}
use Rattle.qsm.specs.declared.event.Access.TheVariants.{Write}
use Rattle.qsm.specs.declared.event.Event.TheVariants as event
use Rattle.qsm.specs.declared.event.Stepped.{Stepped}
use Rattle.tool_editions.specs.Editions.{get, newest}
use Rattle.tool_editions.specs.Laws.{Kept, answer, after, after_all, fresh, Words, Fits, Each}
use Rattle.tool_editions.specs.declared.records.Edition.{Edition}
use Rattle.tool_editions.specs.declared.records.Record.{Record}
use Rattle.tool_editions.specs.declared.records.Record.TheVariants.{Added, Withdrawn}

-- ---- what was called

-- The calls that were answered 0, in order.
abbrev pub taken : Kept → List Record → List Record
taken k [] = []
taken k (r ∷ rs) = cond (eqb (answer k r) 0) (r ∷ taken (after k r) rs) (taken (after k r) rs)

abbrev pub In : Record → List Record → Type 0
In r [] = ⊥
In r (s ∷ rs) = (r ≡ s) ⊎ In r rs

-- An edition of this number was added; was withdrawn.
abbrev pub WasAdded : ℕ → List Record → Type 0
WasAdded n past = (e : Edition) × In (Added e) past × (e.number ≡ n)

abbrev pub WasWithdrawn : ℕ → List Record → Type 0
WasWithdrawn n past = In (Withdrawn n) past

-- Above the last, 0 at first: above every one that was added, withdrawn since or not.
abbrev pub Above : ℕ → List Record → Type 0
Above n past = (0 < n) × ((e : Edition) → In (Added e) past → e.number < n)

abbrev pub NotAbove : ℕ → List Record → Type 0
NotAbove n past = (n ≡ 0) ⊎ ((e : Edition) × In (Added e) past × (n ≤ e.number))

-- ---- settings that the module refuses 3

-- A supervisor's word written.
abbrev pub writes : Module → ℕ → ℕ → Stepped
writes m offset value = step m (event.Access (Write true 2 offset value))

abbrev pub is_three : Stepped → Bool
is_three s = eqb s.answer.refusal 3

-- SCCR0 at 08, SCCR1 at 0A, SPCR0 at 18, SPCR1 at 1A, after a reset, each written whatever became of those before.
abbrev pub three : Edition → Bool
three e =
    let a = writes reset_module 0x08 e.sccr0 in
    let b = writes a.state 0x0A e.sccr1 in
    let c = writes b.state 0x18 e.spcr0 in
    let d = writes c.state 0x1A e.spcr1 in
    ((is_three a || is_three b) || is_three c) || is_three d

-- ---- answers

-- 64 records, or not so many bytes left.
abbrev pub NoRoom : ℕ → Kept → List Record → Type 0
NoRoom bytes k past = (64 ≤ length past) ⊎ (length k.buffer < k.used + bytes)

abbrev pub Room : ℕ → Kept → List Record → Type 0
Room bytes k past = (length past < 64) × (k.used + bytes ≤ length k.buffer)

-- An edition added: 3, else 8, else 7, else 0.
pub record Adds (k : Kept) (past : List Record) (e : Edition) : Type 0 where
  pub is_3 : three e ≡ true → answer k (Added e) ≡ 3
  pub is_8 : three e ≡ false → NotAbove e.number past → answer k (Added e) ≡ 8
  pub is_7 : three e ≡ false → Above e.number past → NoRoom 11 k past → answer k (Added e) ≡ 7
  pub is_0 : three e ≡ false → Above e.number past → Room 11 k past → answer k (Added e) ≡ 0

-- A withdrawal: 8 of one never added or already withdrawn, else 7, else 0.
pub record Withdraws (k : Kept) (past : List Record) (n : ℕ) : Type 0 where
  pub never_added : (WasAdded n past → ⊥) → answer k (Withdrawn n) ≡ 8
  pub already : WasWithdrawn n past → answer k (Withdrawn n) ≡ 8
  pub is_7 : WasAdded n past → (WasWithdrawn n past → ⊥) → NoRoom 3 k past → answer k (Withdrawn n) ≡ 7
  pub is_0 : WasAdded n past → (WasWithdrawn n past → ⊥) → Room 3 k past → answer k (Withdrawn n) ≡ 0

-- The edition that was added, and nothing else under its number.
pub record Gets (k : Kept) (past : List Record) (e : Edition) : Type 0 where
  pub is_given :
      In (Added e) past → (WasWithdrawn e.number past → ⊥) →
      get k.buffer k.used e.number ≡ record { edition = e; refusal = 0 }
  pub given_only :
      (n : ℕ) → get k.buffer k.used n ≡ record { edition = e; refusal = 0 } →
      In (Added e) past × (e.number ≡ n) × (WasWithdrawn n past → ⊥)

pub record GetsNone (k : Kept) (past : List Record) (n : ℕ) : Type 0 where
  pub never_added : (WasAdded n past → ⊥) → (get k.buffer k.used n).refusal ≡ 8
  pub withdrawn : WasWithdrawn n past → (get k.buffer k.used n).refusal ≡ 8

-- The newest: the highest number of those that are not withdrawn.
pub record Newest (k : Kept) (past : List Record) : Type 0 where
  pub is_given :
      (e : Edition) → In (Added e) past → (WasWithdrawn e.number past → ⊥) →
      ((f : Edition) → In (Added f) past → (WasWithdrawn f.number past → ⊥) → f.number ≤ e.number) →
      newest k.buffer k.used ≡ record { edition = e; refusal = 0 }
  pub none_left :
      ((f : Edition) → In (Added f) past → WasWithdrawn f.number past) → (newest k.buffer k.used).refusal ≡ 8

-- ---- bytes

-- 21, edition, SCCR0, SCCR1, SPCR0, SPCR1; 22, edition: big-endian words.
abbrev pub layout : Record → List ℕ
layout (Added e) =
    0x21 ∷ e.number / 256 ∷ e.number % 256 ∷ e.sccr0 / 256 ∷ e.sccr0 % 256 ∷ e.sccr1 / 256 ∷ e.sccr1 % 256 ∷
    e.spcr0 / 256 ∷ e.spcr0 % 256 ∷ e.spcr1 / 256 ∷ e.spcr1 % 256 ∷ []
layout (Withdrawn n) = 0x22 ∷ n / 256 ∷ n % 256 ∷ []

abbrev pub laid : List Record → List ℕ
laid [] = []
laid (r ∷ rs) = layout r ++ laid rs

-- ---- the law

pub record Told (k : Kept) (past : List Record) : Type 0 where
  pub adds : (e : Edition) → Words e → Adds k past e
  pub withdraws : (n : ℕ) → n < 65536 → Withdraws k past n
  pub gets : (e : Edition) → Gets k past e
  pub gets_none : (n : ℕ) → GetsNone k past n
  pub newests : Newest k past
  pub used : k.used ≡ length (laid past)
  pub bytes : take k.used k.buffer ≡ laid past

abbrev pub ByHistory : Type 0
ByHistory = (b : List ℕ) (rs : List Record) → Each Fits rs → Told (after_all (fresh b) rs) (taken (fresh b) rs)

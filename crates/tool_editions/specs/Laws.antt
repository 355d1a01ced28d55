-- What keeping editions promises, in words of the calls: of any buffer, any number of calls, all settings.
use Rattle.std.specs.Prelude.{◌≡◌, List, [], ◌∷◌, ℕ, ◌+◌, ◌≤◌, ◌<◌, length, take, drop}
use Rattle.tool_editions.specs.Records.{size_of}
use Rattle.tool_editions.specs.Rules.{given}
use Rattle.tool_editions.specs.Editions.{changed, get, newest}
use Rattle.tool_editions.specs.declared.records.Edition.{Edition}
use Rattle.tool_editions.specs.declared.records.Record.{Record}
use Rattle.tool_editions.specs.declared.records.Record.TheVariants.{Added, Withdrawn}

-- A buffer and its used length.
pub record Kept : Type 0 where
  pub buffer : List ℕ
  pub used : ℕ

-- A call to add or to withdraw, by the record that it would put: what it answers, and what it leaves.
abbrev pub answer : Kept → Record → ℕ
answer k r = (changed k.buffer k.used r).refusal

abbrev pub after : Kept → Record → Kept
after k r = record { buffer = (changed k.buffer k.used r).buffer; used = (changed k.buffer k.used r).used }

-- Calls one after the other, refused or not.
abbrev pub after_all : Kept → List Record → Kept
after_all k [] = k
after_all k (r ∷ rs) = after_all (after k r) rs

-- An edition and its settings are words, as the type of a call has it.
pub record Words (e : Edition) : Type 0 where
  pub number : e.number < 65536
  pub sccr0 : e.sccr0 < 65536
  pub sccr1 : e.sccr1 < 65536
  pub spcr0 : e.spcr0 < 65536
  pub spcr1 : e.spcr1 < 65536

abbrev pub Fits : Record → Type 0
Fits (Added e) = Words e
Fits (Withdrawn n) = n < 65536

-- Each of some calls.
abbrev pub Each : (Record → Type 0) → List Record → Type 0
Each P [] = Unit {0}
Each P (r ∷ rs) = P r × Each P rs

-- A call does not withdraw edition n.
abbrev pub Keeps : ℕ → Record → Type 0
Keeps n (Added e) = Unit {0}
Keeps n (Withdrawn m) = m ≡ n → ⊥

-- What was added is given back, as it was, whatever is added or withdrawn after it, until it is withdrawn.
abbrev pub GivenBack : Type 0
GivenBack =
    (k : Kept) (e : Edition) (rs : List Record) → Words e → Each Fits rs → answer k (Added e) ≡ 0 → Each (Keeps e.number) rs →
    let l = after_all (after k (Added e)) rs in
    get l.buffer l.used e.number ≡ given e

-- What was withdrawn is not given again, whatever is added or withdrawn after it.
abbrev pub NotGiven : Type 0
NotGiven =
    (k : Kept) (n : ℕ) (rs : List Record) → n < 65536 → Each Fits rs → answer k (Withdrawn n) ≡ 0 →
    let l = after_all (after k (Withdrawn n)) rs in
    (get l.buffer l.used n).refusal ≡ 8

-- The newest is the largest that is given; if there is no newest, none is given.
pub record Largest (k : Kept) : Type 0 where
  pub is_given : (e : Edition) → newest k.buffer k.used ≡ given e → get k.buffer k.used e.number ≡ given e
  pub none_above : (e f : Edition) (n : ℕ) → newest k.buffer k.used ≡ given e → get k.buffer k.used n ≡ given f → n ≤ e.number
  pub none_at_all : (n : ℕ) → (newest k.buffer k.used).refusal ≡ 8 → (get k.buffer k.used n).refusal ≡ 8

abbrev pub NewestIsLargest : Type 0
NewestIsLargest = (k : Kept) → Largest k

-- A refusal changes no byte and not the used length.
abbrev pub RefusalChangesNothing : Type 0
RefusalChangesNothing = (k : Kept) (r : Record) → (answer k r ≡ 0 → ⊥) → after k r ≡ k

-- A call changes no byte but those of its record, at the end of the used length.
abbrev pub OnlyItsRecord : Type 0
OnlyItsRecord =
    (k : Kept) (r : Record) → (take k.used (after k r).buffer ≡ take k.used k.buffer)
    × (drop (k.used + size_of r) (after k r).buffer ≡ drop (k.used + size_of r) k.buffer)
    × (length (after k r).buffer ≡ length k.buffer)

-- Any buffer, none of it used, and calls alone: never 5 or 6.
abbrev pub fresh : List ℕ → Kept
fresh b = record { buffer = b; used = 0 }

pub record InOrder (k : Kept) : Type 0 where
  pub changes : (r : Record) → (answer k r ≡ 5 → ⊥) × (answer k r ≡ 6 → ⊥)
  pub gets : (n : ℕ) → ((get k.buffer k.used n).refusal ≡ 5 → ⊥) × ((get k.buffer k.used n).refusal ≡ 6 → ⊥)
  pub newests : ((newest k.buffer k.used).refusal ≡ 5 → ⊥) × ((newest k.buffer k.used).refusal ≡ 6 → ⊥)

abbrev pub MadeInOrder : Type 0
MadeInOrder = (b : List ℕ) (rs : List Record) → Each Fits rs → InOrder (after_all (fresh b) rs)

-- Each edition added is above all added before it.
abbrev pub Rising : Type 0
Rising =
    (k : Kept) (e f : Edition) (rs : List Record) → Words e → Each Fits rs → answer k (Added e) ≡ 0 →
    answer (after_all (after k (Added e)) rs) (Added f) ≡ 0 → e.number < f.number

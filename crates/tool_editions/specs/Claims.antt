-- All that is shown of keeping editions, and calls that meet what the laws ask.
use Rattle.std.specs.Prelude.{◌≡◌, List, [], ◌∷◌, ℕ}
use Rattle.tool_editions.specs.Rules.{given}
use Rattle.tool_editions.specs.Editions.{get, newest}
use Rattle.tool_editions.specs.Laws.{Kept, answer, after, fresh, GivenBack, NotGiven, NewestIsLargest, RefusalChangesNothing, OnlyItsRecord, MadeInOrder, Rising}
use Rattle.tool_editions.specs.declared.records.Edition.{Edition}
use Rattle.tool_editions.specs.declared.records.Record.TheVariants.{Added, Withdrawn}

-- Editions with MSTR set, and with SPE set without it.
abbrev pub plain : ℕ → Edition
plain n = record { number = n; sccr0 = 0x0004; sccr1 = 0x000C; spcr0 = 0x8104; spcr1 = 0x0404 }

abbrev pub slave : ℕ → Edition
slave n = record { number = n; sccr0 = 0x0004; sccr1 = 0x000C; spcr0 = 0x0104; spcr1 = 0x8404 }

-- Room for two editions and a withdrawal.
abbrev pub room : List ℕ
room = 0 ∷ 0 ∷ 0 ∷ 0 ∷ 0 ∷ 0 ∷ 0 ∷ 0 ∷ 0 ∷ 0 ∷ 0 ∷ 0 ∷ 0 ∷ 0 ∷ 0 ∷ 0 ∷ 0 ∷ 0 ∷ 0 ∷ 0 ∷ 0 ∷ 0 ∷ 0 ∷ 0 ∷ 0 ∷ []

abbrev pub one : Kept
one = after (fresh room) (Added (plain 3))

abbrev pub two : Kept
two = after one (Added (plain 7))

abbrev pub back : Kept
back = after two (Withdrawn 7)

pub record Example : Type 0 where
  pub first : answer (fresh room) (Added (plain 3)) ≡ 0
  -- 3 before 8, which comes for an edition that is not above the last.
  pub unmodelled : answer one (Added (slave 3)) ≡ 3
  pub not_above : answer one (Added (plain 3)) ≡ 8
  pub second : answer one (Added (plain 7)) ≡ 0
  pub withdrawal : answer two (Withdrawn 7) ≡ 0
  pub newest_is_first : newest back.buffer back.used ≡ given (plain 3)
  pub gone : (get back.buffer back.used 7).refusal ≡ 8
  -- 8 before 7: withdrawn already. 7: no byte is left.
  pub twice : answer back (Withdrawn 7) ≡ 8
  pub no_room : answer back (Withdrawn 3) ≡ 7

pub record Claims : Type 0 where
  pub given_back : GivenBack
  pub not_given : NotGiven
  pub newest_is_largest : NewestIsLargest
  pub refusal_changes_nothing : RefusalChangesNothing
  pub only_its_record : OnlyItsRecord
  pub made_in_order : MadeInOrder
  pub rising : Rising
  pub example : Example

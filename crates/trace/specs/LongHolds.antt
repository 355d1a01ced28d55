-- Document 02, L5, longer holds, and what L9 makes of it: what kind 05 leaves as it was, and what it gives. The earlier reader is the same
-- definition of playing with the kinds and the answers of document 01; its module had no count, so that it speaks where no hold is refused 10.
use Rattle.std.specs.Prelude.{◌≡◌, Bool, true, false, not, cond, List, [], ◌∷◌, ◌++◌, ℕ, zero, suc, ◌+◌, ◌-◌, ◌/◌, ◌%◌, ◌^◌, ◌<◌, ◌≤◌, eqb, length, take, drop}
use Rattle.qsm.specs.model.Event.{passes}
use Rattle.qsm.specs.declared.state.Module.{Module}
use Rattle.qsm.specs.declared.event.Event.TheVariants.{Hold}
use Rattle.answers.specs.Answer as answers
use Rattle.trace.specs.Trace.{byte_at, long_hold_kind, earlier, parsed, answer_body, answer_length, Reader}
use Rattle.trace.specs.Play.{Outcome, followed, play_by, play}
use Rattle.trace.specs.Laws.{unknown, record_length, Each, with_stop, unread}
use Rattle.trace.specs.declared.Parsed.TheVariants.{Record}

-- The kinds of a trace's records in order, at most so many of them, and no further than one that is unknown.
unfoldable pub kinds_for : ℕ → List ℕ → List ℕ
kinds_for zero t = []
kinds_for (suc k) t =
    cond (eqb (length t) 0) [] (byte_at t 0 ∷ cond (unknown t) [] (kinds_for k (drop (record_length t) t)))

abbrev pub kinds : List ℕ → List ℕ
kinds t = kinds_for (length t) t

-- A trace without 05: no record is of that kind. Bodies may well have such a byte.
abbrev pub Without05 : List ℕ → Type 0
Without05 t = Each (λ kind. earlier kind ≡ true) (kinds t)

-- The reader of document 01: kinds 01 to 04, and answers of kind 10, which are ten bytes and show no count.
abbrev pub document01 : Reader
document01 = record { takes = earlier; size = answers.plain_length; bytes = λ a. answers.plain ∷ answer_body a }

-- Of a log of n answers of so many bytes: the nine bytes behind each kind byte. A count is left out.
abbrev pub bodies : ℕ → ℕ → List ℕ → List ℕ
bodies size zero log = []
bodies size (suc n) log = take 9 (drop 1 log) ++ bodies size n (drop size log)

-- The same but for kind bytes and counts: the module, the records answered, the stop, and what else stands in the log.
pub record Same (o p : Outcome) : Type 0 where
  pub state : o.state ≡ p.state
  pub records : o.records ≡ p.records
  pub stop : o.stop ≡ p.stop
  pub log : bodies answers.plain_length (length o.records) o.answers ≡ bodies answer_length (length p.records) p.answers

-- Room for as many answers.
abbrev pub AsMany : ℕ → ℕ → Type 0
AsMany room room' = room / answers.plain_length ≡ room' / answer_length

-- Traces without 05 give the same logs.
abbrev pub SameLogs : Type 0
SameLogs =
    (m : Module) (t : List ℕ) (room room' : ℕ) → AsMany room room' → Without05 t →
    Same (play_by document01 m t room) (play m t room')

-- An earlier reader that meets a 05 stops with refusal 5 before it, whatever room is left: the records before it are answered as they
-- are now, and the module is as after them.
abbrev pub StopsBefore05 : Type 0
StopsBefore05 =
    (m : Module) (t u : List ℕ) (room room' : ℕ) → AsMany room room' → Without05 t → (play m t room').stop ≡ 0 →
    Same (play_by document01 m (t ++ (long_hold_kind ∷ u)) room) (with_stop 5 (play m t room'))

-- On any trace the earlier reader's answers are the first of those given now, which go on from its module with what it left.
abbrev pub GoesOn : Type 0
GoesOn =
    (m : Module) (t : List ℕ) (room room' : ℕ) → AsMany room room' →
    (o : Outcome) × Same (play_by document01 m t room) o
    × (play m t room' ≡ followed o (play o.state (unread o t) (room' - length o.answers)))

-- The 05 of n clocks, and a record that is a hold.
abbrev pub long_hold : ℕ → ℕ → ℕ → List ℕ
long_hold pins rxd n =
    long_hold_kind ∷ pins ∷ rxd ∷ n / 16777216 % 256 ∷ n / 65536 % 256 ∷ n / 256 % 256 ∷ n % 256 ∷ []

abbrev pub IsHold : List ℕ → ℕ → Bool → ℕ → Type 0
IsHold r pins rxd n = parsed r ≡ Record (Hold pins rxd n) (length r)

-- There is one for each number of clocks up to 4,294,967,295.
abbrev pub EveryCount : Type 0
EveryCount = (pins rxd n : ℕ) → n < 2 ^ 32 → IsHold (long_hold pins rxd n) pins (not (eqb rxd 0)) n

-- A hold that is not refused 10, split into two of the same pins and RXD and the same total, leaves the same module, its count included,
-- whether its records are 02 or 05.
abbrev pub SplitRecords : Type 0
SplitRecords =
    (m : Module) (r s t : List ℕ) (pins : ℕ) (rxd : Bool) (a b room : ℕ) → 36 ≤ room → passes m (a + b) ≡ false →
    IsHold r pins rxd a → IsHold s pins rxd b → IsHold t pins rxd (a + b) →
    (play m (r ++ s) room).state ≡ (play m t room).state

-- These can be met: a 02 with 05 in each field is a trace without 05 that nothing stops, and the longest hold is a 05 that the earlier
-- reader stops at, or a shorter 05 and a 02, on a module that has counted less.
abbrev pub plain : List ℕ
plain = 0x02 ∷ 0x05 ∷ 0x05 ∷ 0x05 ∷ 0x05 ∷ []

abbrev pub longest : List ℕ
longest = long_hold 0xFF 1 4294967295

pub record Met : Type 0 where
  pub without : Without05 plain
  pub not_stopped : (m : Module) → m.clock < 2 ^ 63 → (play m plain 18).stop ≡ 0
  pub newer : (m : Module) → m.clock < 2 ^ 63 → (play m longest 18).stop ≡ 0
  pub older : (m : Module) → (play_by document01 m longest 10).stop ≡ 5
  pub whole : IsHold longest 0xFF true 4294967295
  pub first : IsHold (long_hold 0xFF 1 4294901760) 0xFF true 4294901760
  pub second : IsHold (0x02 ∷ 0xFF ∷ 1 ∷ 0xFF ∷ 0xFF ∷ []) 0xFF true 65535

pub record LongHolds : Type 0 where
  pub same_logs : SameLogs
  pub stops_before_05 : StopsBefore05
  pub goes_on : GoesOn
  pub every_count : EveryCount
  pub split_records : SplitRecords
  pub met : Met

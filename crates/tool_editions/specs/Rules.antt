-- Document 02, L6: which editions records leave, and what a record behind them is refused for.
use Rattle.std.specs.Prelude.{Bool, true, false, cond, not, ◌&&◌, ◌||◌, List, [], ◌∷◌, ℕ, Option, Some, None, eqb, leb, ltb, length}
use Rattle.qsm.specs.model.State.{reset_module}
use Rattle.qsm.specs.model.Event.{answered, writes}
use Rattle.tool_editions.specs.Records.{number_of}
use Rattle.tool_editions.specs.declared.Given.{Given}
use Rattle.tool_editions.specs.declared.records.Edition.{Edition}
use Rattle.tool_editions.specs.declared.records.Record.{Record}
use Rattle.tool_editions.specs.declared.records.Record.TheVariants.{Added, Withdrawn}
use Rattle.tool_editions.specs.declared.rules.Tried.{Tried}

-- A record withdraws edition n; one of some records does.
abbrev pub withdraws : Record → ℕ → Bool
withdraws (Added e) n = false
withdraws (Withdrawn m) n = eqb m n

unfoldable pub withdrawn : ℕ → List Record → Bool
withdrawn n [] = false
withdrawn n (r ∷ rs) = withdraws r n || withdrawn n rs

-- An edition given as it was added, or none, and why.
abbrev pub given : Edition → Given
given e = record { edition = e; refusal = 0 }

abbrev pub missing : ℕ → Given
missing why =
    record { edition = record { number = 0; sccr0 = 0; sccr1 = 0; spcr0 = 0; spcr1 = 0 }; refusal = why }

-- What was found among records in order, where 8 is for none; and what is asked for: any edition, or the one of a number.
abbrev pub found_in : Option Edition → Given
found_in (Some e) = given e
found_in None = missing 8

abbrev pub any_of : Option ℕ → Bool
any_of (Some n) = false
any_of None = true

abbrev pub number_in : Option ℕ → ℕ
number_in (Some n) = n
number_in None = 0

-- What a record makes of the edition found so far: one that is added, asked for and not gone takes its place. Any is asked for, or number n.
abbrev pub later : Given → Bool → ℕ → Record → Bool → Given
later g any n (Added e) gone = cond gone g (cond (any || eqb e.number n) (given e) g)
later g any n (Withdrawn m) gone = g

-- Gone is an edition that a later record withdraws.
unfoldable pub latest_from : Given → Bool → ℕ → List Record → Given
latest_from g any n [] = g
latest_from g any n (r ∷ rs) = latest_from (later g any n r (withdrawn (number_of r) rs)) any n rs

-- The latest edition that is asked for and not withdrawn; 8 if there is none.
abbrev pub latest : Bool → ℕ → List Record → Given
latest any n rs = latest_from (missing 8) any n rs

-- The last edition added, withdrawn or not; 0 at first.
abbrev pub last_after : ℕ → Record → ℕ
last_after last (Added e) = e.number
last_after last (Withdrawn n) = last

unfoldable pub last_from : ℕ → List Record → ℕ
last_from last [] = last
last_from last (r ∷ rs) = last_from (last_after last r) rs

-- A register written as a supervisor's word; whether this write or one before it is refused 3.
unfoldable pub tries : Tried → ℕ → ℕ → Tried
tries t offset value =
    let s = answered (writes t.state true 2 offset value) in
    record { state = s.state; refused = t.refused || eqb s.answer.refusal 3 }

-- SCCR0, SCCR1, SPCR0, SPCR1, written in that order after reset: one is refused 3.
unfoldable pub unmodelled : Edition → Bool
unmodelled e =
    (tries
    (tries
    (tries
    (tries (record { state = reset_module; refused = false }) 0x08 e.sccr0)
    0x0A e.sccr1)
    0x18 e.spcr0)
    0x1A e.spcr1).refused

-- The check order: 3, 8, 7.
abbrev pub ranked : Bool → Bool → Bool → ℕ
ranked three eight room = cond three 3 (cond eight 8 (cond room 0 7))

-- A record behind the records rs, of which `last` was added last and which are `count`. At most 64, and none past the buffer's end.
abbrev pub judge : ℕ → ℕ → List Record → Bool → Record → ℕ
judge last count rs fits (Added e) = ranked (unmodelled e) (leb e.number last) (fits && ltb count 64)
judge last count rs fits (Withdrawn n) =
    ranked false (not (eqb (latest false n rs).refusal 0)) (fits && ltb count 64)

abbrev pub refusal_of : List Record → Bool → Record → ℕ
refusal_of rs fits r = judge (last_from 0 rs) (length rs) rs fits r

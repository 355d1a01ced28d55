-- Document 01, Seven refusals: what becomes of an access, in the order 1, 2, privilege, 3, 4.
use Rattle.std.specs.Prelude.{Bool, true, false, cond, not, ◌&&◌, ◌||◌, ℕ, ◌%◌, eqb, ltb}
use Rattle.steps.specs.Bits.{bit}
use Rattle.qsm.specs.model.Lanes.{halves, upper_lane, lower_lane, in_map, is_restricted, lined}
use Rattle.qsm.specs.model.Access.{stored}
use Rattle.qsm.specs.declared.state.Module.{Module}
use Rattle.qsm.specs.declared.access.Store.{Store}
use Rattle.qsm.specs.declared.decision.Decision.{Decision}
use Rattle.qsm.specs.declared.decision.Decision.TheVariants.{Permitted, Blocked, Misshapen, Unmapped, Unmodelled, Guarded}

-- The paper's numbers. Privilege gives no refusal.
abbrev pub refusal_of : Decision → ℕ
refusal_of Permitted = 0
refusal_of Blocked = 0
refusal_of Misshapen = 1
refusal_of Unmapped = 2
refusal_of Unmodelled = 3
refusal_of Guarded = 4

-- Width 1, 2 or 4; no odd offset with 2 or 4.
abbrev pub shaped : ℕ → ℕ → Bool
shaped width offset = eqb width 1 || ((eqb width 2 || eqb width 4) && eqb (offset % 2) 0)

-- The written value is not too big for the width.
abbrev pub fits : ℕ → ℕ → Bool
fits width value = cond (eqb width 1) (ltb value 256) (cond (eqb width 2) (ltb value 0x10000) (ltb value 0x100000000))

-- User access to QSMCR, QILR, QIVR, or to anything else while SUPV is set.
abbrev pub barred : Module → Bool → ℕ → ℕ → Bool
barred m supervisor width offset = not supervisor && (bit 7 m.qsmcr || is_restricted width offset)

-- 1, 2, privilege.
abbrev pub gate : Bool → Bool → Bool → Decision
gate shaped mapped barred = cond shaped (cond mapped (cond barred Blocked Permitted) Unmapped) Misshapen

-- 3, 4.
abbrev pub verdict : Bool → Bool → Decision
verdict unmodelled guarded = cond unmodelled Unmodelled (cond guarded Guarded Permitted)

abbrev pub permits : Decision → Bool
permits Permitted = true
permits Blocked = false
permits Misshapen = false
permits Unmapped = false
permits Unmodelled = false
permits Guarded = false

abbrev pub tested : Decision → Bool → Bool → Bool → Decision
tested admitted permitted unmodelled guarded = cond permitted (verdict unmodelled guarded) admitted

unfoldable pub admitted : Module → Bool → Bool → ℕ → ℕ → Decision
admitted m shaped supervisor width offset = gate shaped (in_map width offset) (barred m supervisor width offset)

unfoldable pub decide_read : Module → Bool → ℕ → ℕ → Decision
decide_read m supervisor width offset = admitted m (shaped width offset) supervisor width offset

-- What a write makes of its words.
unfoldable pub stored_by : Module → ℕ → ℕ → ℕ → Store
stored_by m width offset value =
    stored m offset (halves width) (lined width value) (upper_lane width offset) (lower_lane width offset)

unfoldable pub decide_stored : Module → Store → Bool → ℕ → ℕ → ℕ → Decision
decide_stored m s supervisor width offset value =
    let d : Decision = admitted m (shaped width offset && fits width value) supervisor width offset in
    tested d (permits d) s.unmodelled s.guarded

unfoldable pub decide_write : Module → Bool → ℕ → ℕ → ℕ → Decision
decide_write m supervisor width offset value =
    decide_stored m (stored_by m width offset value) supervisor width offset value

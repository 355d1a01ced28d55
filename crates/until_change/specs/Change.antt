-- For a host that sleeps: at given pins and RXD, the least number of clocks after which levels, mask, level or vector of an answer differ
-- from those of an answer now, or none if they never will.
use Rattle.std.specs.Prelude.{Bool, cond, not, ◌&&◌, Option, Some, None, unwrap_or, ℕ, zero, suc, ◌+◌, ◌-◌, eqb}
use Rattle.qsm.specs.model.Event.{answer_of, clock_limit, clocks, held}
use Rattle.qsm.specs.declared.state.Module.{Module}
use Rattle.qsm.specs.declared.event.Answer.{Answer}
use Rattle.until_change.specs.declared.Look.{Look}

-- What of an answer is compared, and what an answer of m shows.
abbrev pub look_of : Answer → Look
look_of a = record { levels = a.levels; mask = a.mask; level = a.level; vector = a.vector }

abbrev pub look : Module → Look
look m = look_of (answer_of m 0 0)

abbrev pub same_look : Look → Look → Bool
same_look a b =
    eqb a.levels b.levels && eqb a.mask b.mask && eqb a.level b.level && eqb a.vector b.vector

-- After n clocks at these levels an answer shows something else than now.
abbrev pub differs : Module → ℕ → Bool → ℕ → Bool
differs m pins rxd n = not (same_look (look m) (look (clocks (held m pins) rxd n)))

-- The first of k numbers, from n on, that is so.
unfoldable pub first_of : (ℕ → Bool) → ℕ → ℕ → Option ℕ
first_of p zero n = None
first_of p (suc k) n = cond (p n) (Some n) (first_of p k (n + 1))

-- No clock comes after 2^64 - 1 since reset: every hold is refused then.
unfoldable pub until_change : Module → ℕ → Bool → Option ℕ
until_change m pins rxd = first_of (differs m pins rxd) (clock_limit - m.clock) 1

-- As a number, 0 for none.
abbrev pub number : Option ℕ → ℕ
number c = unwrap_or c 0

-- Document 02, L10: what the planner proposes, and a proposal changed. The quickest entry has a pre-delay of 1, by DSCK with DSCKL 1, SPBR 2 and the plain delay.
use Rattle.std.specs.Prelude.{cond, Option, Some, None, List, ℕ, zero, suc, ◌+◌, ◌-◌, ◌*◌, ◌%◌, eqb, get_or, set, replicate}
use Rattle.tool_plan.specs.Check.{clock_of, accepts}
use Rattle.tool_plan.specs.declared.SetPoints.{SetPoints}
use Rattle.tool_plan.specs.declared.Plan.{Plan}
use Rattle.tool_plan.specs.declared.Planned.{Planned}

-- The command of a set-point: DSCK, BITSE for a count other than 8, and the select.
abbrev pub quickest : ℕ → ℕ → ℕ
quickest select bits = cond (eqb bits 8) 0 64 + 16 + select % 16

-- The commands of the first n set-points; past them zeros.
unfoldable pub commands_of : List ℕ → List ℕ → ℕ → List ℕ
commands_of selects bits zero = replicate 16 0
commands_of selects bits (suc k) = set (commands_of selects bits k) k (quickest (get_or selects k 0) (get_or bits k 0))

-- The last count other than 8 among the first n; 8 if there is none.
unfoldable pub other_count : List ℕ → ℕ → ℕ
other_count bits zero = 8
other_count bits (suc k) = cond (eqb (get_or bits k 0) 8) (other_count bits k) (get_or bits k 0)

-- A plan from entry 0 on with this clock: MSTR, BITS (16 as 0), SPBR 2; SPE, DSCKL 1; nothing else of SPCR2.
abbrev pub proposed_at : SetPoints → ℕ → Plan
proposed_at s clock =
    record {
      clock = clock;
      spcr0 = 0x8002 + other_count s.bits s.count % 16 * 1024;
      spcr1 = 0x8100;
      spcr2 = 0;
      count = s.count;
      first = 0;
      last = s.count - 1;
      commands = commands_of s.selects s.bits s.count;
      words = s.words;
    }

-- With its own clock.
unfoldable pub proposal : SetPoints → Plan
proposal s = proposed_at s (clock_of (proposed_at s 0))

-- As hosts have it: no plan is refusal 11, and zeros.
abbrev pub no_plan : Planned
no_plan =
    record {
      refusal = 11;
      plan =
          record {
            clock = 0;
            spcr0 = 0;
            spcr1 = 0;
            spcr2 = 0;
            count = 0;
            first = 0;
            last = 0;
            commands = replicate 16 0;
            words = replicate 16 0;
          };
    }

abbrev pub answered : Option Plan → Planned
answered (Some p) = record { refusal = 0; plan = p }
answered None = no_plan

-- A plan if it is accepted, and else none.
unfoldable pub if_accepted : SetPoints → ℕ → Plan → Option Plan
if_accepted s window p = cond (accepts s window p) (Some p) None

abbrev pub planned : SetPoints → ℕ → Option Plan
planned s window = if_accepted s window (proposal s)

-- A plan with other registers, and the clock that it then has.
abbrev pub changed_at : Plan → ℕ → ℕ → ℕ → Plan
changed_at p spcr0 spcr1 clock =
    record {
      clock = clock;
      spcr0 = spcr0;
      spcr1 = spcr1;
      spcr2 = p.spcr2;
      count = p.count;
      first = p.first;
      last = p.last;
      commands = p.commands;
      words = p.words;
    }

unfoldable pub changed : Plan → ℕ → ℕ → Plan
changed p spcr0 spcr1 = changed_at p spcr0 spcr1 (clock_of (changed_at p spcr0 spcr1 0))

abbrev pub revised : SetPoints → ℕ → Plan → ℕ → ℕ → Option Plan
revised s window p spcr0 spcr1 = if_accepted s window (changed p spcr0 spcr1)

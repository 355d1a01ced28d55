-- Document 02, L10: which plans are accepted for set-points and a window, condition by condition.
use Rattle.std.specs.Prelude.{Bool, true, not, ◌&&◌, List, ℕ, zero, suc, ◌+◌, ◌-◌, ◌%◌, ◌^◌, eqb, ltb, leb, get_or}
use Rattle.qspi.specs.model.Fields.{mstr, spbr, spe, wren, pcs_field, bits_of}
use Rattle.qspi.specs.model.Registers.{spcr0_unmodelled}
use Rattle.qspi.specs.claims.Run.{last_clock_of, length_of}
use Rattle.tool_plan.specs.declared.SetPoints.{SetPoints}
use Rattle.tool_plan.specs.declared.Plan.{Plan}

-- A condition holds of each number below n.
unfoldable pub each : ℕ → (ℕ → Bool) → Bool
each zero f = true
each (suc k) f = each k f && f k

-- Set-point k, and entry k of a plan, counted from its first pointer.
abbrev pub select_no : SetPoints → ℕ → ℕ
select_no s k = get_or s.selects k 0

abbrev pub bits_no : SetPoints → ℕ → ℕ
bits_no s k = get_or s.bits k 0

abbrev pub word_no : SetPoints → ℕ → ℕ
word_no s k = get_or s.words k 0

abbrev pub command_no : Plan → ℕ → ℕ
command_no p k = get_or p.commands k 0

abbrev pub sent_no : Plan → ℕ → ℕ
sent_no p k = get_or p.words k 0

-- Chip select 0 to 15, 8 to 16 bits, a word not too big for its bits.
abbrev pub in_range : ℕ → ℕ → ℕ → Bool
in_range select bits word = leb select 15 && leb 8 bits && leb bits 16 && ltb word (2 ^ bits)

abbrev pub ranged : SetPoints → ℕ → Bool
ranged s k = in_range (select_no s k) (bits_no s k) (word_no s k)

-- An empty list or one over 16, or a set-point out of these ranges, has no plan.
unfoldable pub proper : SetPoints → Bool
proper s = leb 1 s.count && leb s.count 16 && each s.count (ranged s)

-- An entry with a set-point's own select, whole transmit word and bit count. (So all counts other than 8 agree: BITS is one field.)
abbrev pub carries : ℕ → ℕ → ℕ → ℕ → ℕ → ℕ → Bool
carries spcr0 command sent select bits word =
    eqb (pcs_field command) select && eqb sent word && eqb (bits_of spcr0 command) bits

-- Entry k carries set-point k.
abbrev pub carried : SetPoints → Plan → ℕ → Bool
carried s p k = carries p.spcr0 (command_no p k) (sent_no p k) (select_no s k) (bits_no s k) (word_no s k)

-- Consecutive entries modulo 16 from the first pointer to the last.
abbrev pub pointed : Plan → Bool
pointed p = leb p.first 15 && leb p.last 15 && eqb ((p.first + p.count) % 16) ((p.last + 1) % 16)

-- SPBR of 2 or more, MSTR and SPE set, WREN clear, nothing that refusal 3 names.
abbrev pub allowed : Plan → Bool
allowed p =
    leb 2 (spbr p.spcr0) && mstr p.spcr0 && spe p.spcr1 && not (wren p.spcr2)
    && not (spcr0_unmodelled p.spcr0 true)

-- The clocks before entry k's clock 1, counted from the first entry's: the lengths of the entries before it.
unfoldable pub clock_before : ℕ → ℕ → List ℕ → ℕ → ℕ
clock_before spcr0 spcr1 commands zero = 0
clock_before spcr0 spcr1 commands (suc k) =
    clock_before spcr0 spcr1 commands k + length_of spcr0 spcr1 (get_or commands k 0)

-- The clock of entry k's edge 2n.
abbrev pub last_edge : Plan → ℕ → ℕ
last_edge p k = clock_before p.spcr0 p.spcr1 p.commands k + last_clock_of p.spcr0 p.spcr1 (command_no p k)

-- The last edge 2n's.
abbrev pub clock_of : Plan → ℕ
clock_of p = last_edge p (p.count - 1)

-- Each set-point once, in order, in consecutive entries, the registers as they must be, and a stated clock that is the last edge 2n's and
-- not above the window.
unfoldable pub accepts : SetPoints → ℕ → Plan → Bool
accepts s window p =
    proper s && eqb p.count s.count && each s.count (carried s p) && pointed p && allowed p
    && eqb p.clock (clock_of p)
    && leb p.clock window

-- The entry under way: its bits on MOSI and MISO, its edges, the delay after it, and its end.
use Rattle.std.specs.Prelude.{Bool, true, false, cond, not, ◌&&◌, ℕ, ◌+◌, ◌-◌, ◌*◌, ◌/◌, ◌%◌, eqb, ltb}
use Rattle.steps.specs.Bits.{bit, digit}
use Rattle.qspi.specs.model.Fields.{cpha, spbr, cont, bits_of, pre_delay}
use Rattle.qspi.specs.declared.entry.Entry.{Entry}
use Rattle.qspi.specs.declared.registers.Registers.{Registers}

-- MOSI changes on even edges for CPHA=0, on odd ones for CPHA=1; MISO is read on the others. Clock 1 stands for edge 0.
abbrev pub changes : Bool → ℕ → Bool
changes cpha j = cond cpha (eqb (j % 2) 1) (eqb (j % 2) 0)

-- Bit i of the n that go out, highest first.
abbrev pub bit_out : ℕ → ℕ → ℕ → Bool
bit_out w n i = bit ((n - 1 - i) % 16) w

-- MOSI after edge j; otherwise it holds.
unfoldable pub mosi_after : Bool → ℕ → ℕ → ℕ → Bool → Bool
mosi_after cpha n w j mosi = cond (changes cpha j && ltb (j / 2) n) (bit_out w n (j / 2)) mosi

-- A bit read goes in below the bits before it.
abbrev pub pushed : ℕ → Bool → ℕ
pushed collected miso = collected % 0x8000 * 2 + digit miso

-- The bits read so far after edge j.
unfoldable pub collected_after : Bool → ℕ → Bool → ℕ → ℕ
collected_after cpha j miso collected = cond (changes (not cpha) j) (pushed collected miso) collected

-- Clock 1 with this command and transmit word: the pre-delay begins, and the first bit is out for CPHA=0.
abbrev pub started : Registers → ℕ → ℕ → Bool → Entry
started r command word mosi =
    record {
      command = command;
      word = word;
      playing = true;
      delaying = false;
      halted = false;
      left = pre_delay r.spcr0 r.spcr1 command;
      edges = 0;
      mosi = mosi_after (cpha r.spcr0) (bits_of r.spcr0 command) word 0 mosi;
      collected = 0;
      selecting = true;
    }

-- How far the bits have come: clocks to the next edge, edges fallen, MOSI, and the bits read.
abbrev pub with_bits : Entry → ℕ → ℕ → Bool → ℕ → Entry
with_bits e left edges mosi collected =
    record {
      command = e.command;
      word = e.word;
      playing = e.playing;
      delaying = e.delaying;
      halted = e.halted;
      left = left;
      edges = edges;
      mosi = mosi;
      collected = collected;
      selecting = e.selecting;
    }

-- Edge j: MISO read or MOSI changed.
abbrev pub edge_fallen : ℕ → ℕ → Bool → Entry → Entry
edge_fallen spcr0 j miso e =
    with_bits e (spbr spcr0) j (mosi_after (cpha spcr0) (bits_of spcr0 e.command) e.word j e.mosi)
    (collected_after (cpha spcr0) j miso e.collected)

-- A clock in which no edge falls.
abbrev pub ticked : Entry → Entry
ticked e = with_bits e (e.left - 1) e.edges e.mosi e.collected

-- Where the entry stands, the count there, and whether the PCS show its command.
abbrev pub with_place : Entry → Bool → Bool → Bool → ℕ → ℕ → Bool → Entry
with_place e playing delaying halted left edges selecting =
    record {
      command = e.command;
      word = e.word;
      playing = playing;
      delaying = delaying;
      halted = halted;
      left = left;
      edges = edges;
      mosi = e.mosi;
      collected = e.collected;
      selecting = selecting;
    }

-- The delay after edge 2n.
abbrev pub delay_begun : ℕ → Entry → Entry
delay_begun clocks e = with_place e false true false clocks 0 e.selecting

-- A clock of it: PCS stay only with CONT.
abbrev pub in_delay : Entry → Entry
in_delay e =
    with_place e e.playing e.delaying e.halted (e.left - 1) e.edges (e.selecting && cont e.command)

-- Its last clock, with HALT set or clear.
abbrev pub delay_over : Bool → Entry → Entry
delay_over halts e = with_place e false false halts 0 e.edges (e.selecting && cont e.command)

-- Start state: no entry runs, and PORTQS shows on the PCS.
abbrev pub abandoned : Entry → Entry
abandoned e = with_place e false false false 0 0 false

-- MOSI 0 until the first bit.
abbrev pub silent : Entry → Entry
silent e = with_bits e e.left e.edges false e.collected

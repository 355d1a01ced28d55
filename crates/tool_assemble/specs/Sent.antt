-- A text sent on RXD: 8N1, a hold for each bit.
use Rattle.std.specs.Prelude.{Bool, true, false, cond, Option, Some, None, List, [], ◌∷◌, ℕ, zero, suc, ◌+◌, ◌-◌, ◌*◌, ◌/◌, ◌%◌, eqb, ltb, length, drop, get_or}
use Rattle.steps.specs.Bits.{bit}
use Rattle.qsm.specs.declared.event.Event.TheVariants.{Hold}
use Rattle.trace.specs.Trace.{hold_kind, long_hold_kind}
use Rattle.tool_assemble.specs.Scan.{digit_of}
use Rattle.tool_assemble.specs.declared.sent.Sent.{Sent}
use Rattle.tool_assemble.specs.declared.sent.Character.{Character}
use Rattle.tool_assemble.specs.declared.sent.Bit.{Bit}

-- So many bytes of a text that stand for a byte.
abbrev pub of : ℕ → ℕ → Option Character
of n b = Some (record { length = n; byte = b })

-- \n, \r, \t, \\ and \".
abbrev pub escaped : ℕ → Option Character
escaped b =
    cond (eqb b 110) (of 2 10)
    (cond (eqb b 114) (of 2 13)
    (cond (eqb b 116) (of 2 9)
    (cond (eqb b 92) (of 2 92)
    (cond (eqb b 34) (of 2 34) None))))

-- \x and two hexadecimal digits.
abbrev pub hex_pair : ℕ → ℕ → Option Character
hex_pair high low = cond (ltb 15 high) None (cond (ltb 15 low) None (of 4 (high * 16 + low)))

abbrev pub behind_backslash : ℕ → ℕ → ℕ → Option Character
behind_backslash b c d = cond (eqb b 120) (hex_pair (digit_of c) (digit_of d)) (escaped b)

-- A character by its first four bytes: none for the closing quote, or for an escape that is not known.
unfoldable pub spelled : ℕ → ℕ → ℕ → ℕ → Option Character
spelled a b c d = cond (eqb a 34) None (cond (eqb a 92) (behind_backslash b c d) (of 1 a))

-- What a text of so many bytes has room for.
abbrev pub within : ℕ → Option Character → Option Character
within n None = None
within n (Some c) = cond (ltb n c.length) None (Some c)

-- The character that the rest of a quoted text begins with.
unfoldable pub character : List ℕ → Option Character
character t = within (length t) (spelled (get_or t 0 0) (get_or t 1 0) (get_or t 2 0) (get_or t 3 0))

-- A quoted text ends where no character stands; else it goes on behind that one.
abbrev pub quoted_on : Option Character → ℕ → (ℕ → ℕ) → ℕ
quoted_on None at rest = at
quoted_on (Some c) at rest = rest (at + c.length)

-- Where a quoted text ends, of at most so many characters, from a place on.
unfoldable pub quoted : ℕ → ℕ → List ℕ → ℕ
quoted zero at t = at
quoted (suc more) at t =
    quoted_on (character (drop at t)) at (λ n. quoted more n t)

-- Its bytes, likewise.
abbrev pub sent_on : Option Character → List ℕ → (List ℕ → List ℕ) → List ℕ
sent_on None t rest = []
sent_on (Some c) t rest = c.byte ∷ rest (drop c.length t)

unfoldable pub sent_bytes : ℕ → List ℕ → List ℕ
sent_bytes zero t = []
sent_bytes (suc more) t = sent_on (character t) t (sent_bytes more)

-- A frame: a start bit, the byte's bits, the lowest first, and a stop bit.
abbrev pub frame : ℕ → List Bool
frame b =
    false ∷ bit 0 b ∷ bit 1 b ∷ bit 2 b ∷ bit 3 b ∷ bit 4 b ∷ bit 5 b ∷ bit 6 b ∷ bit 7 b ∷ true ∷ []

abbrev pub level : ℕ → ℕ → Bool
level b i = get_or (frame b) i true

-- The clock at which bit k of a text begins, from the beginning of the text: k x HZ / baud, rounded, halves up.
unfoldable pub edge : ℕ → ℕ → ℕ → ℕ
edge baud clock k = cond (eqb baud 0) 0 ((k * clock + baud / 2) / baud)

abbrev pub bit_clocks : Sent → ℕ → ℕ
bit_clocks s k = edge s.baud s.clock (k + 1) - edge s.baud s.clock k

-- A hold of so many clocks: 02 where they fit, else 05.
abbrev pub hold_kind_of : ℕ → ℕ
hold_kind_of clocks = cond (ltb clocks 65536) hold_kind long_hold_kind

-- The hold of bit i of a byte, which is bit k of the text.
abbrev pub bit_hold : Sent → ℕ → ℕ → ℕ → Bit
bit_hold s b i k =
    record { kind = hold_kind_of (bit_clocks s k); event = Hold s.pins (level b i) (bit_clocks s k % 4294967296) }

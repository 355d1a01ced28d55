-- The words of a command, one after the other.
use Rattle.std.specs.Prelude.{◌≡◌, true, false, cond, ℕ, ◌+◌, ◌%◌, ltb, set, replicate, Option, Some, None, Result, Ok, Err, ⊤}
use Rattle.std.specs.Option.{option_or}
use Rattle.shell.specs.declared.options.Kind.{Kind}
use Rattle.shell.specs.declared.options.Kind.TheVariants as kind
use Rattle.shell.specs.declared.arguments.Seen.{Seen}
use Rattle.shell.specs.declared.arguments.Refusal.{Refusal}
use Rattle.shell.specs.declared.arguments.Refusal.TheVariants.{Help, Version, Unknown, NoValue, TooFew, TooMany}

abbrev pub none : Seen
none =
    record { help = false; version = false; ended = false; waits = None; unknown = None; words = 0; flags = replicate 16 None; values = replicate 16 None; places = replicate 8 None }

-- An option that stands alone, and one whose value is awaited.
abbrev pub flagged : Seen → ℕ → ℕ → Seen
flagged s k i =
    record { help = s.help; version = s.version; ended = s.ended; waits = s.waits; unknown = s.unknown; words = s.words; flags = set s.flags (k % 16) (Some i); values = s.values; places = s.places }

abbrev pub waiting : Seen → ℕ → Seen
waiting s k =
    record { help = s.help; version = s.version; ended = s.ended; waits = cond (ltb k 16) (Some k) None; unknown = s.unknown; words = s.words; flags = s.flags; values = s.values; places = s.places }

-- The value of the option that waits.
abbrev pub valued : Seen → ℕ → ℕ → Seen
valued s k i =
    record { help = s.help; version = s.version; ended = s.ended; waits = None; unknown = s.unknown; words = s.words; flags = s.flags; values = set s.values (k % 16) (Some i); places = s.places }

-- The first eight words are kept, and more are no more than nine.
abbrev pub plain : Seen → ℕ → Seen
plain s i =
    cond (ltb s.words 8)
    (record { help = s.help; version = s.version; ended = s.ended; waits = s.waits; unknown = s.unknown; words = s.words + 1; flags = s.flags; values = s.values; places = set s.places s.words (Some i) })
    (record { help = s.help; version = s.version; ended = s.ended; waits = s.waits; unknown = s.unknown; words = 9; flags = s.flags; values = s.values; places = s.places })

-- The first counts.
abbrev pub unknown : Seen → ℕ → Seen
unknown s i =
    record { help = s.help; version = s.version; ended = s.ended; waits = s.waits; unknown = option_or s.unknown (Some i); words = s.words; flags = s.flags; values = s.values; places = s.places }

abbrev pub helped : Seen → Seen
helped s = record { help = true; version = s.version; ended = s.ended; waits = s.waits; unknown = s.unknown; words = s.words; flags = s.flags; values = s.values; places = s.places }

abbrev pub versioned : Seen → Seen
versioned s = record { help = s.help; version = true; ended = s.ended; waits = s.waits; unknown = s.unknown; words = s.words; flags = s.flags; values = s.values; places = s.places }

abbrev pub ended : Seen → Seen
ended s = record { help = s.help; version = s.version; ended = true; waits = s.waits; unknown = s.unknown; words = s.words; flags = s.flags; values = s.values; places = s.places }

abbrev pub optioned : Seen → ℕ → Kind → Seen
optioned s i kind.Plain = plain s i
optioned s i kind.Help = helped s
optioned s i kind.Version = versioned s
optioned s i kind.End = ended s
optioned s i (kind.Flag k) = flagged s k i
optioned s i (kind.Valued k) = waiting s k
optioned s i kind.Unknown = unknown s i

-- Where an option waits, any word is its value; behind --, any word is one.
abbrev pub taken_by : Option ℕ → Seen → ℕ → Kind → Seen
taken_by (Some o) s i k = valued s o i
taken_by None s i k = cond s.ended (plain s i) (optioned s i k)

abbrev pub taken : Seen → ℕ → Kind → Seen
taken s i k = taken_by s.waits s i k

abbrev pub unless_unknown : Option ℕ → Result ⊤ Refusal → Result ⊤ Refusal
unless_unknown (Some i) r = Err (Unknown i)
unless_unknown None r = r

abbrev pub unless_waiting : Option ℕ → Result ⊤ Refusal → Result ⊤ Refusal
unless_waiting (Some k) r = Err NoValue
unless_waiting None r = r

abbrev pub judged : Seen → ℕ → ℕ → Result ⊤ Refusal
judged s least most =
    cond s.help (Err Help)
    (cond s.version (Err Version)
    (unless_unknown s.unknown
    (unless_waiting s.waits
    (cond (ltb s.words least) (Err TooFew)
    (cond (ltb most s.words) (Err TooMany) (Ok tt))))))

-- A command goes on only where all of it is expected.
abbrev pub Goes : ℕ → ℕ → Seen → Type 0
Goes least most s = judged s least most ≡ Ok tt

-- What is shown of assembling: the line that `text` prints of a record gives the record back.
use Rattle.std.specs.Prelude.{◌≡◌, Bool, ◌⊎◌, Some, Ok, List, ◌++◌, ℕ, ◌<◌, ◌^◌, eqb, length}
use Rattle.qsm.specs.declared.event.Access.TheVariants.{Read, Write}
use Rattle.qsm.specs.declared.event.Event.{Event}
use Rattle.qsm.specs.declared.event.Event.TheVariants.{Reset, Hold}
use Rattle.qsm.specs.declared.event.Event.TheVariants as events
use Rattle.trace.specs.Trace.{byte_at, reset_kind, hold_kind, read_kind, write_kind, long_hold_kind, parsed}
use Rattle.trace.specs.declared.Parsed.TheVariants as traced
use Rattle.text.specs.Digits.{number}
use Rattle.text.specs.Record.{long, event}
use Rattle.tool_assemble.specs.Encode.{record_bytes}
use Rattle.tool_assemble.specs.Item.{item}
use Rattle.tool_assemble.specs.declared.item.Item.TheVariants.{Record}

-- The clocks of a hold fit its kind.
abbrev pub Clocks : ℕ → ℕ → Type 0
Clocks kind clocks = ((kind ≡ hold_kind) × (clocks < 65536)) ⊎ ((kind ≡ long_hold_kind) × (clocks < 2 ^ 32))

-- A record that a trace can have: its fields fit its bytes.
abbrev pub Fits : ℕ → Event → Type 0
Fits kind Reset = kind ≡ reset_kind
Fits kind (Hold pins rxd clocks) = (pins < 256) × Clocks kind clocks
Fits kind (events.Access (Read supervisor width offset)) = (kind ≡ read_kind) × (width < 128) × (offset < 65536)
Fits kind (events.Access (Write supervisor width offset value)) =
    (kind ≡ write_kind) × (width < 128) × (offset < 65536) × (value < 2 ^ 32)

-- The line of record n, without the byte that ends it.
abbrev pub printed : ℕ → ℕ → Event → List ℕ
printed n kind e = number n ++ long (eqb kind long_hold_kind) ++ event e

-- The line of a record gives it back: a reset, a hold of either kind, a read, a write.
abbrev pub ResetsGiveBack : Type 0
ResetsGiveBack = (n : ℕ) → item (printed n reset_kind Reset) ≡ Ok (Some (Record reset_kind Reset))

abbrev pub HoldsGiveBack : Type 0
HoldsGiveBack =
    (n kind pins : ℕ) (rxd : Bool) (clocks : ℕ) → Fits kind (Hold pins rxd clocks) →
    item (printed n kind (Hold pins rxd clocks)) ≡ Ok (Some (Record kind (Hold pins rxd clocks)))

abbrev pub ReadsGiveBack : Type 0
ReadsGiveBack =
    (n : ℕ) (supervisor : Bool) (width offset : ℕ) → width < 128 → offset < 65536 →
    item (printed n read_kind (events.Access (Read supervisor width offset)))
    ≡ Ok (Some (Record read_kind (events.Access (Read supervisor width offset))))

abbrev pub WritesGiveBack : Type 0
WritesGiveBack =
    (n : ℕ) (supervisor : Bool) (width offset value : ℕ) → width < 128 → offset < 65536 → value < 2 ^ 32 →
    item (printed n write_kind (events.Access (Write supervisor width offset value)))
    ≡ Ok (Some (Record write_kind (events.Access (Write supervisor width offset value))))

-- Whichever it is.
abbrev pub LinesGiveBack : Type 0
LinesGiveBack = (n kind : ℕ) (e : Event) → Fits kind e → item (printed n kind e) ≡ Ok (Some (Record kind e))

-- The bytes of a record are the record, to a reader of traces.
abbrev pub BytesGiveBack : Type 0
BytesGiveBack =
    (kind : ℕ) (e : Event) (t : List ℕ) → Fits kind e →
    (parsed (record_bytes kind e ++ t) ≡ traced.Record e (length (record_bytes kind e))) × (byte_at (record_bytes kind e ++ t) 0 ≡ kind)

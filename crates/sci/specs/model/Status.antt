-- Document 01, Flags and how they fall. 'Seen' is the paper's word for the marks that a status read leaves.
use Rattle.std.specs.Prelude.{Bool, cond}
use Rattle.sci.specs.model.Flags.{insert, contains, without, common}
use Rattle.sci.specs.declared.flags.Flags.{Flags}
use Rattle.sci.specs.declared.status.Status.{Status}

unfoldable pub has : Status → Flags → Bool
has s f = contains s.flags f

unfoldable pub raise : Status → Flags → Status
raise s f = record { flags = insert s.flags f; seen = s.seen }

unfoldable pub raise_if : Bool → Status → Flags → Status
raise_if rises s f = cond rises (raise s f) s

-- A mark lasts until its flag falls.
unfoldable pub fall : Status → Flags → Status
fall s f = record { flags = without s.flags f; seen = without s.seen f }

unfoldable pub fall_if : Bool → Status → Flags → Status
fall_if falls s f = cond falls (fall s f) s

-- A read of either byte of SCSR marks as seen every flag then set.
unfoldable pub mark_seen : Status → Status
mark_seen s = record { flags = s.flags; seen = insert s.seen s.flags }

-- The flags of a group that are set and seen fall.
unfoldable pub fall_seen : Status → Flags → Status
fall_seen s group = fall s (common (common s.flags s.seen) group)

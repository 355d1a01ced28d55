-- Document 01, Seven refusals: the words of an access act in address order, each tested against what the earlier one would leave, as if it
-- were let through.
use Rattle.std.specs.Prelude.{Bool, false, ◌||◌, ℕ, ◌+◌, ◌*◌, ◌/◌, ◌%◌}
use Rattle.steps.specs.Iterate.{iterate}
use Rattle.qsm.specs.model.Map.{decode}
use Rattle.qsm.specs.model.Word.{peek, put, unmodelled, guarded}
use Rattle.qsm.specs.declared.state.Module.{Module}
use Rattle.qsm.specs.declared.access.Words.{Words}
use Rattle.qsm.specs.declared.access.Store.{Store}

-- Offsets have 16 bits. (No access that is in the map goes past the last one.)
abbrev pub next : ℕ → ℕ
next at = (at + 2) % 0x10000

-- One word read.
unfoldable pub fetch : Module → Words → Words
fetch m w = record { at = next w.at; words = w.words % 0x10000 * 0x10000 + peek m (decode w.at) }

unfoldable pub fetched : Module → ℕ → ℕ → ℕ
fetched m at n = (iterate n (fetch m) (record { at = at; words = 0 })).words

-- One word written and tested.
unfoldable pub store : Bool → Bool → Store → Store
store upper lower s =
    record {
      state = put s.state (decode s.at) (s.words / 0x10000) upper lower;
      at = next s.at;
      words = s.words % 0x10000 * 0x10000;
      unmodelled = s.unmodelled || unmodelled s.state (decode s.at) (s.words / 0x10000) upper lower;
      guarded = s.guarded || guarded s.state (decode s.at) (s.words / 0x10000) upper lower;
    }

unfoldable pub stored : Module → ℕ → ℕ → ℕ → Bool → Bool → Store
stored m at n words upper lower =
    iterate n (store upper lower)
    (record { state = m; at = at; words = words; unmodelled = false; guarded = false })

-- Marks given to an output one after the other. Assumes nothing.
use mathlib.Core.Path.{◌≡◌, subst}
use mathlib.Core.List.{List}
use Prim.Native.Nat.{ℕ, ◌+◌, ◌*◌}
use native.Mathlib.Numerals.{add-one}
use lib.ListN.{get_or}
use Rattle.tool_index.specs.Stored.{mark_bytes}
use Rattle.console.specs.Output.{Gives}
use Rattle.console.specs.declared.output.Out.{Out}
use Rattle.console.proofs.Giving.{both}
use Rattle.console.proofs.Lines.{nothing}
use Rattle.cmd_index.specs.File.{file_of}

module _ (lent : List ℕ) (o : Out) (buf : List ℕ) where
  pub starts : Gives o buf (file_of lent 0) o buf
  unfolding file_of
  starts = nothing o buf

  -- One mark more.
  pub onwards : (i : ℕ) (o' : Out) (buf' mark : List ℕ) (o'' : Out) (buf'' : List ℕ) → Gives o buf (file_of lent i) o' buf'
      → mark ≡ mark_bytes (get_or lent (2 * i) 0) (get_or lent (2 * i + 1) 0) → Gives o' buf' mark o'' buf'' → Gives o buf (file_of lent (i + 1)) o'' buf''
  unfolding file_of
  onwards i o' buf' mark o'' buf'' g is h =
      rw (add-one i) (both _ _ _ _ _ _ _ _ g (subst (λ (m : List ℕ). Gives o' buf' m o'' buf'') is h))

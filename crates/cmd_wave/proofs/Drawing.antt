-- Turns through a piece, one after the other. Assumes nothing.
use mathlib.Core.Path.{◌≡◌, refl, ap, subst, ◌∙◌}
use mathlib.Core.List.{List}
use Prim.Native.Nat.{ℕ, suc}
use Rattle.steps.specs.Iterate.{iterate}
use Rattle.console.specs.Output.{Gives}
use Rattle.console.specs.declared.output.Out.{Out}
use Rattle.console.proofs.Giving.{both}
use Rattle.console.proofs.Lines.{nothing}
use Rattle.tool_wave.specs.declared.Waves.{Waves}
use Rattle.tool_wave.specs.declared.Turned.{Turned}
use Rattle.cmd_wave.specs.Piece.{step_told, again, before, texts}

-- After so many turns a drawing stands here, and the output has been given their text.
pub record Stands (hz : ℕ) (bytes : List ℕ) (s : Waves) (o : Out) (buf : List ℕ) (t : Turned) (o' : Out) (buf' : List ℕ) : Type 0 where
  pub turns : ℕ
  pub turned : t ≡ iterate turns (again bytes) (before s)
  pub given : Gives o buf (texts hz bytes s turns) o' buf'

module _ (hz : ℕ) (bytes : List ℕ) (s : Waves) (o : Out) (buf : List ℕ) where
  pub starts : Stands hz bytes s o buf (before s) o buf
  unfolding iterate texts
  starts = record { turns = 0; turned = refl; given = nothing o buf }

  -- One turn more.
  pub onwards : (t : Turned) (o' : Out) (buf' : List ℕ) (u : Turned) (o'' : Out) (buf'' : List ℕ) → Stands hz bytes s o buf t o' buf'
      → u ≡ again bytes t → Gives o' buf' (step_told hz u.outcome) o'' buf'' → Stands hz bytes s o buf u o'' buf''
  unfolding iterate texts
  onwards t o' buf' u o'' buf'' st is g =
      let turned : u ≡ again bytes (iterate st.turns (again bytes) (before s)) = is ∙ ap (again bytes) st.turned in
      record {
        turns = suc st.turns;
        turned = turned;
        given = both _ _ _ _ _ _ _ _ st.given (subst (λ (x : Turned). Gives o' buf' (step_told hz x.outcome) o'' buf'') turned g);
      }

-- Calls on a piece, one after the other. Assumes nothing.
use mathlib.Core.Path.{◌≡◌, refl, ap, subst, ◌∙◌}
use mathlib.Core.Bool.{Bool}
use mathlib.Core.List.{List}
use Prim.Native.Nat.{ℕ, suc}
use Rattle.steps.specs.Iterate.{iterate}
use Rattle.console.specs.Output.{Gives}
use Rattle.console.proofs.Giving.{both}
use Rattle.console.proofs.Lines.{nothing}
use Rattle.cmd_lines.specs.Piece.{line, words, next, lines, all_words, Turns, Plays}
use Rattle.cmd_lines.specs.declared.calls.Run.{Run}
use Rattle.cmd_lines.specs.declared.piece.Wanted.{Wanted}
use Rattle.cmd_lines.specs.declared.piece.Went.{Went}

module _ (w : Wanted) (bytes : List ℕ) (last : Bool) (x : Went) (buf said : List ℕ) where
  pub starts : Plays w bytes last x buf said x buf said
  unfolding iterate lines all_words
  starts = record { calls = 0; run = refl; printed = nothing x.lines buf; told = nothing x.words said }

  -- One call more.
  pub onwards : (y : Went) (buf' said' : List ℕ) (z : Went) (buf'' said'' : List ℕ) → Plays w bytes last x buf said y buf' said'
      → Turns w bytes last y buf' said' z buf'' said'' → Plays w bytes last x buf said z buf'' said''
  unfolding iterate lines all_words
  onwards y buf' said' z buf'' said'' p t =
      let run : z.run ≡ next w bytes last (iterate p.calls (next w bytes last) x.run) = t.run ∙ ap (next w bytes last) p.run in
      record {
        calls = suc p.calls;
        run = run;
        printed = both _ _ _ _ _ _ _ _ p.printed (subst (λ (r : Run). Gives y.lines buf' (line r) z.lines buf'') run t.printed);
        told = both _ _ _ _ _ _ _ _ p.told (subst (λ (r : Run). Gives y.words said' (words w r) z.words said'') run t.told);
      }

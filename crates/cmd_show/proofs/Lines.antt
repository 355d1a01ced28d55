-- Lines given to an output one after the other. Assumes nothing.
use mathlib.Core.Path.{◌≡◌, refl, sym, ap, subst, ◌∙◌}
use mathlib.Core.Bool.{Bool, true, false}
use mathlib.Core.List.{List, []}
use Prim.Native.Nat.{ℕ, suc, ◌+◌, ◌-◌, ◌<◌, ◌≤◌}
use native.Mathlib.Omega.{arith}
use lib.ListN.{length, take, drop, length-drop, drop_of_length-le}
use Rattle.steps.specs.Iterate.{iterate}
use Rattle.console.specs.Output.{Gives}
use Rattle.console.specs.declared.output.Out.{Out}
use Rattle.console.proofs.Giving.{both}
use Rattle.console.proofs.Lines.{nothing}
use Rattle.trace.specs.Trace.{byte_at}
use Rattle.trace.proofs.Going.{rest}
use Rattle.cmd_show.specs.Item.{item}
use Rattle.cmd_show.specs.declared.item.Item.{Item}
use Rattle.cmd_show.proofs.Within.{shown_within}
use Rattle.cmd_show.specs.Piece.{past, here, next, text, texts}
use Rattle.cmd_show.specs.declared.item.What.TheVariants as what
use Rattle.cmd_show.specs.declared.piece.Run.{Run}

-- After so many lines a run stands here, and the output has been given them.
pub record Stands (traces : Bool) (bytes : List ℕ) (r : Run) (o : Out) (buf : List ℕ) (r' : Run) (o' : Out) (buf' : List ℕ) : Type 0 where
  pub lines : ℕ
  pub run : r' ≡ iterate lines (next traces bytes) r
  pub given : Gives o buf (texts traces bytes r lines) o' buf'

module _ (traces : Bool) (bytes : List ℕ) (r : Run) (o : Out) (buf : List ℕ) where
  pub stands : Stands traces bytes r o buf r o buf
  unfolding iterate texts
  stands =
      record {
        lines = 0;
        run = refl;
        given = nothing o buf;
      }

  -- One line more.
  pub onwards : (r' : Run) (o' : Out) (buf' : List ℕ) (o'' : Out) (buf'' : List ℕ) → Stands traces bytes r o buf r' o' buf'
      → (here traces bytes r').what ≡ what.Shown → Gives o' buf' (text (here traces bytes r')) o'' buf''
      → Stands traces bytes r o buf (past r' (byte_at bytes r'.at) (r'.at + (here traces bytes r').size)) o'' buf''
  unfolding iterate texts
  onwards r' o' buf' o'' buf'' s shown g =
      record {
        lines = suc s.lines;
        run = rw (← s.run, shown);
        given =
            both
            o
            buf
            (texts traces bytes r s.lines)
            o'
            buf'
            (text (here traces bytes (iterate s.lines (next traces bytes) r)))
            o''
            buf''
            s.given
            (rw (← s.run) g);
      }

  -- The same of what was found there, and of what a run then is.
  pub goes : (r' : Run) (o' : Out) (buf' : List ℕ) (i : Item) (r'' : Run) (o'' : Out) (buf'' : List ℕ) → Stands traces bytes r o buf r' o' buf'
      → i ≡ item traces r'.kind r'.number (take (length bytes - r'.at) (drop r'.at bytes)) → i.what ≡ what.Shown
      → Gives o' buf' (text i) o'' buf'' → r'' ≡ past r' (byte_at bytes r'.at) (r'.at + i.size) → Stands traces bytes r o buf r'' o'' buf''
  goes r' o' buf' i r'' o'' buf'' s is shown g went =
      let j : i ≡ here traces bytes r' = is ∙ ap (item traces r'.kind r'.number) (rest bytes r'.at) in
      let h = sym (ap (λ (x : Item). x.what) j) ∙ shown in
      let further = onwards r' o' buf' o'' buf'' s h (subst (λ (x : Item). Gives o' buf' (text x) o'' buf'') j g) in
      let is_it : r'' ≡ past r' (byte_at bytes r'.at) (r'.at + (here traces bytes r').size) =
      subst (λ (x : Item). r'' ≡ past r' (byte_at bytes r'.at) (r'.at + x.size)) j went in
      subst (λ (x : Run). Stands traces bytes r o buf x o'' buf'') (sym is_it) further

-- What is shown lies within the piece.
pub inside : (traces : Bool) (bytes : List ℕ) (kind n at : ℕ) (i : Item) → at < length bytes
    → i ≡ item traces kind n (take (length bytes - at) (drop at bytes)) → i.what ≡ what.Shown → (0 < i.size) × (at + i.size ≤ length bytes)
inside traces bytes kind n at i before is shown =
    let t = take (length bytes - at) (drop at bytes) in
    let w = shown_within traces kind n t (sym (ap (λ (x : Item). x.what) is) ∙ shown) in
    let size : i.size ≡ (item traces kind n t).size = ap (λ (x : Item). x.size) is in
    let long : length t ≡ length bytes - at = ap length (rest bytes at) ∙ length-drop at bytes in
    (omega (arith, size, w.0), omega (arith, size, w.1, long, before))

no_more : (traces : Bool) (kind n : ℕ) → (item traces kind n []).what ≡ what.More
no_more true kind n = refl
no_more false kind n = refl

-- Behind the last byte more is needed.
pub at_end_holds : (traces : Bool) (bytes : List ℕ) (r : Run) → length bytes ≤ r.at → what.More ≡ (here traces bytes r).what
at_end_holds traces bytes r past-it = rw (drop_of_length-le bytes {i = r.at} past-it) (sym (no_more traces r.kind r.number))

pub never : {A : Type 0} (b : Bool) → b ≡ true → b ≡ false → A
never b bad good = let z : ◌≡◌ {A = ℕ} 0 1 = cc in absurd (omega arith)

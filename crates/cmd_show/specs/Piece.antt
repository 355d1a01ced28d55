-- The answers or records of a piece, one after the other.
use Rattle.std.specs.Prelude.{◌≡◌, Bool, false, List, [], ◌++◌, ℕ, zero, suc, ◌+◌, take, drop}
use Rattle.steps.specs.Iterate.{iterate}
use Rattle.trace.specs.Trace.{byte_at}
use Rattle.files.specs.Pieces.{counted}
use Rattle.console.specs.Output.{Gives}
use Rattle.console.specs.declared.output.Out.{Out}
use Rattle.cmd_show.specs.Item.{item}
use Rattle.cmd_show.specs.declared.item.Item.{Item}
use Rattle.cmd_show.specs.declared.item.What.{What}
use Rattle.cmd_show.specs.declared.item.What.TheVariants.{Shown, More, Bad}
use Rattle.cmd_show.specs.declared.piece.Run.{Run}
use Rattle.cmd_show.specs.declared.piece.Went.{Went}

abbrev pub past : Run → ℕ → ℕ → Run
past r kind at = record { kind = kind; number = counted r.number 1; at = at }

-- What stands where a run stands.
abbrev pub here : Bool → List ℕ → Run → Item
here traces bytes r = item traces r.kind r.number (drop r.at bytes)

-- Only past what is shown a run goes on.
abbrev pub onward : What → Run → Run → Run
onward Shown r s = s
onward More r s = r
onward (Bad f) r s = r

abbrev pub next : Bool → List ℕ → Run → Run
next traces bytes r = onward (here traces bytes r).what r (past r (byte_at bytes r.at) (r.at + (here traces bytes r).size))

-- The line there, if one is shown.
abbrev pub text : Item → List ℕ
text i = take i.line.length i.line.bytes

-- The lines of the first so many.
unfoldable pub texts : Bool → List ℕ → Run → ℕ → List ℕ
texts traces bytes r zero = []
texts traces bytes r (suc n) = texts traces bytes r n ++ text (here traces bytes (iterate n (next traces bytes) r))

-- A piece was shown: so many lines were given to the output, and where it has not failed, the run stands before what is not whole, and tells it.
pub record Shows (traces : Bool) (bytes : List ℕ) (r : Run) (o : Out) (buf : List ℕ) (w : Went) (buf' : List ℕ) : Type 0 where
  pub lines : ℕ
  pub run : w.run ≡ iterate lines (next traces bytes) r
  pub given : Gives o buf (texts traces bytes r lines) w.out buf'
  pub told : w.out.failed ≡ false → w.what ≡ (here traces bytes w.run).what

use Rattle.std.proofs.Common.{rules, tests, sym, ◌∙◌}
use Rattle.std.proofs.lemmas.Iterator.{YieldsList-from_slice}
use Rattle.std.proofs.lemmas.Iterator.Search.{position_from_yields_List}
use Rattle.files.specs.Words.{same}
use Rattle.shell.proofs.Names.{placed}
use Rattle.shell.proofs.options.place.Goals as goal

pub returns : goal.returns
returns c =
    position_from_yields_List (λ name. same c.args.word.now name.now) _ _ _ c.position.ensures.ran (YieldsList-from_slice c.args.names.now (cc)) (λ x b q k. search (rules, tests))
    ∙ sym (placed (same c.args.word.now) (λ name. name.now) c.args.names.now)

use borrow.Author.Rules.{rules}
use Rattle.tool_judge.proofs.Closing.{concluding}
use Rattle.tool_judge.proofs.judge.Goals as goal

pub returns : goal.returns
returns c = search (rules, concluding)

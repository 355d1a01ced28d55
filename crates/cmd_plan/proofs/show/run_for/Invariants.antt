use Rattle.cmd_plan.proofs.show.run_for.Given as goal

abbrev pub decreases-loop-left : goal.decreases-loop-left
decreases-loop-left l = l.left

use Rattle.std.proofs.Common.{◌≡◌}
use Rattle.shell.specs.Folder.{folder, folder_of}
use Rattle.shell.proofs.target.folder.Given as goal

abbrev pub invariant-loop-i : goal.invariant-loop-i
invariant-loop-i l = folder l.path ≡ folder_of l.i l.path

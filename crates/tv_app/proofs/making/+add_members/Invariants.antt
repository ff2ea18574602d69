use Rattle.std.proofs.Common.{length}
use Rattle.tv_app.proofs.making.+add_members.Given as goal

abbrev pub decreases-add_members : goal.decreases-add_members
decreases-add_members g l = length l.views.now

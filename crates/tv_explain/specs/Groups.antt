-- The kinds of faults, those of views alone and those of rules alone apart.
use Rattle.tv_model.specs.declared.fault.FaultKind.{FaultKind}
use Rattle.tv_model.specs.declared.fault.FaultKind.TheVariants as faults
use Rattle.tv_explain.specs.declared.groups.FaultGroup.{FaultGroup}
use Rattle.tv_explain.specs.declared.groups.FaultGroup.TheVariants as groups
use Rattle.tv_explain.specs.declared.groups.ViewFault.{ViewFault}
use Rattle.tv_explain.specs.declared.groups.ViewFault.TheVariants as of_views
use Rattle.tv_explain.specs.declared.groups.RuleFault.{RuleFault}
use Rattle.tv_explain.specs.declared.groups.RuleFault.TheVariants as of_rules

abbrev pub kind_of_view : ViewFault → FaultKind
kind_of_view of_views.Overlap = faults.Overlap
kind_of_view of_views.LetterTwice = faults.LetterTwice
kind_of_view of_views.LabelLink = faults.LabelLink
kind_of_view of_views.SecondDefault = faults.SecondDefault
kind_of_view of_views.EmptyDomain = faults.EmptyDomain
kind_of_view of_views.BadStart = faults.BadStart

abbrev pub kind_of_rule : RuleFault → FaultKind
kind_of_rule of_rules.UnknownInRule = faults.UnknownInRule
kind_of_rule of_rules.ShowsItself = faults.ShowsItself

-- the kind of which this is the group: each kind is that of one group
abbrev pub kind_of : FaultGroup → FaultKind
kind_of groups.NameTwice = faults.NameTwice
kind_of groups.OutsideOwner = faults.OutsideOwner
kind_of groups.StatusKey = faults.StatusKey
kind_of groups.NothingToFocus = faults.NothingToFocus
kind_of groups.MissingEnd = faults.MissingEnd
kind_of groups.WideCharacter = faults.WideCharacter
kind_of groups.OutsideLimits = faults.OutsideLimits
kind_of groups.BadOpening = faults.BadOpening
kind_of groups.MenuLetter = faults.MenuLetter
kind_of (groups.OfView fault) = kind_of_view fault
kind_of (groups.OfRule fault) = kind_of_rule fault

-- Which faults show by comparing a line with others, list by list, and which were judged before.
use Rattle.std.specs.Prelude.{Bool, true, false}
use Rattle.tv_model.specs.declared.fault.FaultKind.{FaultKind}
use Rattle.tv_model.specs.declared.fault.FaultKind.TheVariants as faults

abbrev pub compares_menus : FaultKind → Bool
compares_menus faults.MenuLetter = true
compares_menus _ = false

abbrev pub compares_items : FaultKind → Bool
compares_items faults.MenuLetter = true
compares_items _ = false

abbrev pub compares_status_items : FaultKind → Bool
compares_status_items faults.StatusKey = true
compares_status_items _ = false

abbrev pub compares_windows : FaultKind → Bool
compares_windows faults.NameTwice = true
compares_windows faults.MenuLetter = true
compares_windows _ = false

abbrev pub compares_dialogs : FaultKind → Bool
compares_dialogs faults.NameTwice = true
compares_dialogs faults.BadOpening = true
compares_dialogs _ = false

abbrev pub compares_views : FaultKind → Bool
compares_views faults.NameTwice = true
compares_views faults.OutsideOwner = true
compares_views faults.Overlap = true
compares_views faults.LetterTwice = true
compares_views faults.LabelLink = true
compares_views faults.SecondDefault = true
compares_views _ = false

abbrev pub compares_rules : FaultKind → Bool
compares_rules faults.UnknownInRule = true
compares_rules faults.ShowsItself = true
compares_rules _ = false

-- faults of domains and starts, for which each view was judged before
abbrev pub is_judged_before : FaultKind → Bool
is_judged_before faults.EmptyDomain = true
is_judged_before faults.BadStart = true
is_judged_before _ = false

-- What a log says of nodes that stand some lines later: the same, by their names.
use Rattle.std.proofs.Common.{◌≡◌, ℕ, ◌+◌, ◌==◌, Bool, true, false, cond, List, [], ◌∷◌, ◌++◌, map, flat_map, Option, Some, None, unwrap_or, refl, sym, ap, ◌∙◌, arith}
use Rattle.std.specs.Prelude.{codes}
use Rattle.std.proofs.lemmas.Bool.{eqb-true, false_from_ne_true, true≢false}
use Rattle.std.proofs.lemmas.List.{map-append}
use Rattle.tv_event.specs.declared.event.Command.{Command}
use Rattle.tv_machine.specs.Dialog.Ending.{field_line}
use Rattle.tv_machine.proofs.ListLemmas.{bool_cases, id-itself}
use Rattle.tv_model.specs.declared.desc.Desc.{Desc}
use Rattle.tv_model.specs.declared.desc.Dialog.{Dialog}
use Rattle.tv_model.specs.declared.desc.Window.{Window}
use Rattle.tv_model.specs.declared.kind.Kind.{Kind}
use Rattle.tv_model.specs.declared.kind.Kind.TheVariants as kinds
use Rattle.tv_model.specs.declared.log.LogLine.TheVariants as lines
use Rattle.tv_model.specs.declared.node.Id.{Id}
use Rattle.tv_model.specs.declared.node.Node.{Node}
use Rattle.tv_model.specs.declared.record.Entry.{Entry}
use Rattle.tv_model.specs.declared.record.Value.{Value}
use Rattle.tv_model.specs.declared.record.Value.TheVariants as values
use Rattle.tv_model.specs.Description.Heads.{all_nodes, dialog_nodes, window_nodes}
use Rattle.tv_model.specs.Description.Nodes.{name_of, node_of}
use Rattle.tv_model.specs.Log.LogText.{bytes_of, end_word, line_of, log_line, log_text, name_of_node, name_text, value_text}
use Rattle.tv_model.specs.Log.Record.{Entries, value_of}
use Rattle.tv_answers.specs.declared.answers.Answer.{Answer}
use Rattle.tv_answers.specs.declared.answers.Answers.{Answers}
use Rattle.tv_answers.specs.Filling.{filled, filled_dialogs, with_start, with_value_found, with_value_of, with_values_of}
use Rattle.tv_answers.proofs.NumberedLemmas.{begun_desc, dialog_later, later, lines_later, node_later, window_later}

-- ---- numbers

pub plus_same : (a b k : ℕ) → (a + k == b + k) ≡ (a == b)
plus_same a b k =
    bool_cases (a == b) (λ t. (a == b) ≡ t → (a + k == b + k) ≡ t) (λ is e. ap (λ n. n + k == b + k) (eqb-true a b e) ∙ id-itself (record { 0 = b + k }))
    (λ no e. false_from_ne_true (a + k == b + k) (λ same. differ e (omega (arith, eqb-true (a + k) (b + k) same)))) refl
  where
    differ : (a == b) ≡ false → a ≡ b → ⊥
    differ e same = (let both : true ≡ false = sym (id-itself (record { 0 = b })) ∙ ap (λ n. n == b) (sym same) ∙ e in true≢false both)

-- ---- names

pub same_name : (k : Kind) (v : Value) → name_of (with_start k v) ≡ name_of k
same_name (kinds.Input input) (values.Text text) = refl
same_name (kinds.CheckBoxes boxes) (values.Marks marks) = refl
same_name (kinds.RadioButtons radios) (values.Item item) = refl
same_name (kinds.List list) (values.Item item) = refl
same_name _ _ = refl

module _ (k : ℕ) where
  -- a number with a name: the node's own, and some lines later
  abbrev Named : Type 0
  Named = ℕ × Option (List ℕ)

  abbrev own : Node → Named
  own node = (node.id.0, name_of node.kind)

  abbrev behind : Node → Named
  behind node = (node.id.0 + k, name_of node.kind)

  name_here : (node other : Node) (nodes others : List Node) (i : Id) → own other ≡ behind node → name_of_node (node_of others (later k i)) ≡ name_of_node (node_of nodes i)
      → name_of_node (node_of (other ∷ others) (later k i)) ≡ name_of_node (node_of (node ∷ nodes) i)
  name_here node other nodes others i same more =
      let number : other.id.0 ≡ node.id.0 + k = ap (λ (x : Named). x.0) same in
      let name : name_of other.kind ≡ name_of node.kind = ap (λ (x : Named). x.1) same in
      ap (λ b. name_of_node (cond b (Some other) (node_of others (later k i)))) (ap (λ n. n == i.0 + k) number ∙ plus_same node.id.0 i.0 k)
      ∙ by_test (node.id.0 == i.0) name
    where
      by_test : (b : Bool) → name_of other.kind ≡ name_of node.kind → name_of_node (cond b (Some other) (node_of others (later k i))) ≡ name_of_node (cond b (Some node) (node_of nodes i))
      by_test true name = ap (λ o. unwrap_or o []) name
      by_test false name = more

  names_found : (nodes others : List Node) (i : Id) → map own others ≡ map behind nodes → name_of_node (node_of others (later k i)) ≡ name_of_node (node_of nodes i)
  names_found [] [] i same = refl
  names_found [] (other ∷ others) i same = absurd cc
  names_found (node ∷ nodes) [] i same = absurd cc
  names_found (node ∷ nodes) (other ∷ others) i same =
      let first : own other ≡ behind node = cc in
      let rest : map own others ≡ map behind nodes = cc in
      name_here node other nodes others i first (names_found nodes others i rest)

  -- ---- all nodes

  appended : (us vs xs ys : List Node) → map own us ≡ map behind xs → map own vs ≡ map behind ys → map own (us ++ vs) ≡ map behind (xs ++ ys)
  appended us vs xs ys first rest =
      map-append own us vs ∙ ap (λ zs. zs ++ map own vs) first ∙ ap (λ zs. map behind xs ++ zs) rest ∙ sym (map-append behind xs ys)

  nodes_behind : (nodes : List Node) → map own (map (node_later k) nodes) ≡ map behind nodes
  nodes_behind [] = refl
  nodes_behind (node ∷ nodes) = ap (λ xs. behind node ∷ xs) (nodes_behind nodes)

  windows_behind : (windows : List Window) → map own (flat_map window_nodes (map (window_later k) windows)) ≡ map behind (flat_map window_nodes windows)
  windows_behind [] = refl
  windows_behind (window ∷ windows) =
      appended (window_nodes (window_later k window)) (flat_map window_nodes (map (window_later k) windows)) (window_nodes window) (flat_map window_nodes windows)
      (nodes_behind (window_nodes window)) (windows_behind windows)

  view_behind : (view : Node) (o : Option Value) → own (node_later k (with_value_found view o)) ≡ behind view
  view_behind view None = refl
  view_behind view (Some v) = ap (λ name. (view.id.0 + k, name)) (same_name view.kind v)

  views_behind : (es : Entries) (views : List Node) → map own (map (node_later k) (map (with_value_of es) views)) ≡ map behind views
  views_behind es [] = refl
  views_behind es (view ∷ views) =
      ap (λ x. x ∷ map own (map (node_later k) (map (with_value_of es) views))) (view_behind view (value_of es view.id.0)) ∙ ap (λ xs. behind view ∷ xs) (views_behind es views)

  dialogs_behind : (dialogs : List Dialog) (given : List Answer) → map own (flat_map dialog_nodes (map (dialog_later k) (filled_dialogs dialogs given))) ≡ map behind (flat_map dialog_nodes dialogs)
  dialogs_behind [] given = refl
  dialogs_behind (dialog ∷ dialogs) [] =
      appended (dialog_nodes (dialog_later k dialog)) (flat_map dialog_nodes (map (dialog_later k) dialogs)) (dialog_nodes dialog) (flat_map dialog_nodes dialogs)
      (nodes_behind (dialog_nodes dialog)) (dialogs_behind_as dialogs)
    where
      dialogs_behind_as : (ds : List Dialog) → map own (flat_map dialog_nodes (map (dialog_later k) ds)) ≡ map behind (flat_map dialog_nodes ds)
      dialogs_behind_as [] = refl
      dialogs_behind_as (d ∷ ds) =
          appended (dialog_nodes (dialog_later k d)) (flat_map dialog_nodes (map (dialog_later k) ds)) (dialog_nodes d) (flat_map dialog_nodes ds) (nodes_behind (dialog_nodes d)) (dialogs_behind_as ds)
  dialogs_behind (dialog ∷ dialogs) (answer ∷ given) =
      appended (dialog_nodes (dialog_later k (with_values_of answer.entries dialog))) (flat_map dialog_nodes (map (dialog_later k) (filled_dialogs dialogs given))) (dialog_nodes dialog) (flat_map dialog_nodes dialogs)
      (ap (λ xs. behind dialog.node ∷ xs) (views_behind answer.entries dialog.views)) (dialogs_behind dialogs given)

  abbrev pub entry_later : Entry → Entry
  entry_later entry = record entry { id = later k entry.id }

-- ---- logs

module _ (d : Desc) (a : Answers) (name : List ℕ) where
  abbrev k : ℕ
  k = lines_later d.start

  abbrev begun : Desc
  begun = begun_desc (filled d a) name

  name_logged : (i : Id) → name_text begun (later k i) ≡ name_text d i
  name_logged i =
      ap bytes_of
      (names_found k (all_nodes d) (all_nodes begun) i
      (appended k (flat_map window_nodes (map (window_later k) d.windows)) (flat_map dialog_nodes (map (dialog_later k) (filled_dialogs d.dialogs a.dialogs))) (flat_map window_nodes d.windows) (flat_map dialog_nodes d.dialogs)
      (windows_behind k d.windows) (dialogs_behind k d.dialogs a.dialogs)))

  fields_logged : (es : Entries) → log_text begun (map field_line (map (entry_later k) es)) ≡ log_text d (map field_line es)
  fields_logged [] = refl
  fields_logged (entry ∷ es) =
      ap (λ bs. line_of (codes "field ") (bs ++ codes " " ++ value_text entry.value) ++ log_text begun (map field_line (map (entry_later k) es))) (name_logged entry.id)
      ∙ ap (λ bs. log_line d (field_line entry) ++ bs) (fields_logged es)

  -- an end with its fields
  pub end_logged : (i : Id) (command : Command) (es : Entries) → log_text begun (lines.End (later k i) command ∷ map field_line (map (entry_later k) es)) ≡ log_text d (lines.End i command ∷ map field_line es)
  end_logged i command es =
      ap (λ bs. line_of (codes "end ") (bs ++ codes " " ++ end_word command.0) ++ log_text begun (map field_line (map (entry_later k) es))) (name_logged i)
      ∙ ap (λ bs. log_line d (lines.End i command) ++ bs) (fields_logged es)

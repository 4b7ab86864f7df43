-- The lists with a text of each variable.
use Rattle.std.specs.Prelude.{ℕ, List}
use Rattle.format.specs.Edition.{Edition, n_varnames, n_formats, n_value_label_names, n_variable_labels}
use Rattle.questions.specs.Ask.{Question, ask_name, ask_format, ask_set, ask_var_label}
use Rattle.text_facts.specs.declared.TextList.{TextList}
use Rattle.text_facts.specs.declared.TextList.TheVariants.{Names, Formats, SetNames, VarLabels}

-- which part of a layout a list is
abbrev pub part_of : TextList → ℕ
part_of Names = 3
part_of Formats = 5
part_of SetNames = 6
part_of VarLabels = 7

-- the name of its tags
abbrev pub name_of : TextList → List ℕ
name_of Names = n_varnames
name_of Formats = n_formats
name_of SetNames = n_value_label_names
name_of VarLabels = n_variable_labels

-- how many bytes a field has
abbrev pub width_of : TextList → Edition → ℕ
width_of Names e = e.name_width
width_of Formats e = e.format_width
width_of SetNames e = e.name_width
width_of VarLabels e = e.var_label_width

-- the question for the text of variable i
abbrev pub asked : TextList → ℕ → Question
asked Names i = ask_name i
asked Formats i = ask_format i
asked SetNames i = ask_set i
asked VarLabels i = ask_var_label i

-- The updates of what is ready to be given, whatever its form.
use Rattle.std.specs.Prelude.{List}
use Rattle.update.specs.declared.change.Update.{Update}
use Rattle.desk_laws.specs.declared.output.Form.{Form}
use Rattle.desk_laws.specs.declared.output.Form.TheVariants.{Listed, Answered}

module _ {T : Type 0} where
  abbrev pub put_out : Form T → List (Update T)
  put_out (Listed list) = list
  put_out (Answered columns) = columns

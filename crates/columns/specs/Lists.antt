-- The updates of a list, whatever its form.
use Rattle.std.specs.Prelude.{List}
use Rattle.update.specs.declared.change.Update.{Update}
use Rattle.columns.specs.declared.list.Form.{Form}
use Rattle.columns.specs.declared.list.Form.TheVariants.{Plain, Packed}

module _ {T : Type 0} where
  -- the updates of a form
  abbrev pub listed : Form T → List (Update T)
  listed (Plain updates) = updates.items
  listed (Packed columns) = columns.value

-- How a name is printed.
use Rattle.std.specs.Prelude.{ℕ, List, ◌++◌, codes}
use Rattle.std.specs.Fmt.{decimal}
use Rattle.closing.specs.declared.names.Name.{Name}
use Rattle.closing.specs.declared.names.Name.TheVariants.{Class, Property}

-- its sort, a blank and its number
abbrev pub shown : Name → List ℕ
shown (Class a) = codes "class " ++ decimal a
shown (Property p) = codes "property " ++ decimal p

-- How many arguments the built-in functions take.
use Rattle.std.specs.Prelude.{ℕ, Bool, false, ◌||◌, ◌==◌, Option, Some, None}
use Rattle.rule_ast.specs.declared.table.Builtin.{Builtin}
use Rattle.rule_ast.specs.declared.table.Builtin.TheVariants as builtin

-- as many as the keys of a look-up, and its table
abbrev pub is_lookup : ℕ → Bool
is_lookup n = 2 == n || (3 == n || (4 == n || 5 == n))

abbrev pub takes : Builtin → ℕ → Bool
takes builtin.If n = 3 == n
takes builtin.Not n = 1 == n
takes builtin.Min n = 2 == n
takes builtin.Max n = 2 == n
takes builtin.Log2 n = 1 == n
takes builtin.Union n = 2 == n
takes builtin.Minus n = 2 == n
takes builtin.Meet n = 2 == n
takes builtin.Has n = 2 == n
takes builtin.Subset n = 2 == n
takes builtin.Size n = 1 == n
takes builtin.Length n = 1 == n
takes builtin.At n = 2 == n
takes builtin.Prefix n = 2 == n
takes builtin.Concat n = 2 == n
takes builtin.Elems n = 1 == n
takes builtin.NumAt n = is_lookup n
takes builtin.TruthAt n = is_lookup n
takes builtin.SymbolAt n = is_lookup n
takes builtin.SetAt n = is_lookup n
takes builtin.ListAt n = is_lookup n

-- no name means no function
abbrev pub takes_if : Option Builtin → ℕ → Bool
takes_if (Some f) n = takes f n
takes_if None n = false

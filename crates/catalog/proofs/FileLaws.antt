-- Files and their properties.
use Rattle.std.proofs.Common.{◌≡◌, true, false, cond, List, [], ◌∷◌, Option, Some, None, option_map, refl, sym, ap, ◌∙◌}
use Rattle.std.specs.List.{find}
use Rattle.std.specs.Str.{bytes_eq}
use Rattle.pr_value.specs.Symbols.{Symbol}
use Rattle.catalog.specs.Contents.{Field, File, Entry, listed, unknown, field, entry_in}

field-find : (fs : List Field) (name : Symbol) → field fs name ≡ option_map (λ f. f.value) (find (λ f. bytes_eq f.name name) fs)
field-find [] name = refl
field-find (f ∷ fs) name =
    elim (bytes_eq f.name name) as (λ b. cond b (Some f.value) (field fs name) ≡ option_map (λ g. g.value) (cond b (Some f) (find (λ g. bytes_eq g.name name) fs))) [
      | true ↦ refl
      | false ↦ field-find fs name
    ]

pub field_found : (fs : List Field) (name : Symbol) (o : Option Field) → o ≡ find (λ f. bytes_eq f.name name) fs → option_map (λ f. f.value) o ≡ field fs name
field_found fs name o is = ap (option_map (λ f. f.value)) is ∙ sym (field-find fs name)

abbrev pub entry_of : Option File → Entry
entry_of None = unknown
entry_of (Some f) = listed f.fields

entry_in-find : (fs : List File) (name : Symbol) → entry_in fs name ≡ entry_of (find (λ f. bytes_eq f.name name) fs)
entry_in-find [] name = refl
entry_in-find (f ∷ fs) name =
    elim (bytes_eq f.name name) as (λ b. cond b (listed f.fields) (entry_in fs name) ≡ entry_of (cond b (Some f) (find (λ g. bytes_eq g.name name) fs))) [
      | true ↦ refl
      | false ↦ entry_in-find fs name
    ]

pub entry_found : (fs : List File) (name : Symbol) (o : Option File) → o ≡ find (λ f. bytes_eq f.name name) fs → entry_of o ≡ entry_in fs name
entry_found fs name o is = ap entry_of is ∙ sym (entry_in-find fs name)

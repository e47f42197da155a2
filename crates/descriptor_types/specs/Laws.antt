-- Laws of layouts and descriptors.
use Rattle.std.specs.Prelude.{◌≡◌, ℕ, true, false, Some, None, length, slice_get, slice_set}
use Rattle.std.specs.Str.{bytes_eq}
use Rattle.pr_value.specs.Symbols.{Symbol}
use Rattle.pr_value.specs.Values.{has_kind}
use Rattle.pr_value.specs.declared.property.Property.{Property}
use Rattle.pr_value.specs.declared.value.Value.{Value}
use Rattle.descriptor_types.specs.Descriptors.{Layout, Mask, Desc, place_of, plain, fits, value_of, with_value, only, asked_of}

-- all defaults fit
abbrev pub PlainFits : Type 0
PlainFits = (l : Layout) → fits l (plain l) ≡ true

-- what a mask leaves of a descriptor that fits does too
abbrev pub OnlyFits : Type 0
OnlyFits = (l : Layout) (m : Mask) (d : Desc) → length m ≡ length l → fits l d ≡ true → fits l (only l m d) ≡ true

-- and so does what two that fit make together
abbrev pub AskedFits : Type 0
AskedFits =
    (l : Layout) (m : Mask) (wanted d : Desc) → length m ≡ length l → fits l wanted ≡ true → fits l d ≡ true → fits l (asked_of m wanted d) ≡ true

-- a descriptor that fits is as long as its layout
abbrev pub AsLong : Type 0
AsLong = (l : Layout) (d : Desc) → fits l d ≡ true → length d ≡ length l

-- ---- names and places

-- at the place of a name stands a property of that name
abbrev pub NamedAt : Type 0
NamedAt = (l : Layout) (name : Symbol) (i : ℕ) → place_of l name ≡ Some i → (p : Property) × (slice_get l i ≡ Some p) × (p.name ≡ name)

-- the value by a name is the value at its place
abbrev pub ValueAt : Type 0
ValueAt = (l : Layout) (name : Symbol) (d : Desc) (i : ℕ) → length d ≡ length l → place_of l name ≡ Some i → slice_get d i ≡ Some (value_of l name d)

-- a change by a name is one at its place
abbrev pub ChangedAt : Type 0
ChangedAt = (l : Layout) (name : Symbol) (w : Value) (d : Desc) (i : ℕ) → place_of l name ≡ Some i → with_value l name w d ≡ slice_set d i w

-- without that name nothing changes
abbrev pub ChangedNowhere : Type 0
ChangedNowhere = (l : Layout) (name : Symbol) (w : Value) (d : Desc) → place_of l name ≡ None → with_value l name w d ≡ d

-- what was set is read
abbrev pub ReadsWhatIsSet : Type 0
ReadsWhatIsSet = (l : Layout) (name : Symbol) (w : Value) (d : Desc) (i : ℕ) → length d ≡ length l → place_of l name ≡ Some i → value_of l name (with_value l name w d) ≡ w

-- and other names read what they read before
abbrev pub OthersStay : Type 0
OthersStay = (l : Layout) (name other : Symbol) (w : Value) (d : Desc) → bytes_eq name other ≡ false → value_of l other (with_value l name w d) ≡ value_of l other d

-- a value of a descriptor that fits is of its property's kind
abbrev pub KindAt : Type 0
KindAt =
    (l : Layout) (name : Symbol) (d : Desc) (i : ℕ) (q : Property) → fits l d ≡ true → place_of l name ≡ Some i → slice_get l i ≡ Some q → has_kind q.kind (value_of l name d) ≡ true

-- and with a value of that kind it fits still
abbrev pub ChangedFits : Type 0
ChangedFits =
    (l : Layout) (name : Symbol) (w : Value) (d : Desc) (i : ℕ) (q : Property) → fits l d ≡ true → place_of l name ≡ Some i → slice_get l i ≡ Some q → has_kind q.kind w ≡ true → fits l (with_value l name w d) ≡ true

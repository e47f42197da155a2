use Rattle.std.proofs.Common.{◌≡◌, drop}
use Rattle.std.specs.List.{list_any}
use Rattle.catalog.specs.Contents.{field}
use Rattle.query_build.specs.Refusals.{is_wrong_field}
use Rattle.query_build.proofs.conditions.has_wrong_field.Given as goal

-- the rest decides
abbrev pub invariant-loop-property : goal.invariant-loop-property
invariant-loop-property l =
    list_any (λ p. is_wrong_field p (field l.fields p.name)) (drop l.property-index l.properties)
    ≡ list_any (λ p. is_wrong_field p (field l.fields p.name)) l.properties

-- What names stand for in the innermost frame, and in those around it.
use Rattle.std.proofs.Common.{◌≡◌, false, cond, List, [], ◌∷◌, ◌++◌, map, reverse, ap, sym, ◌∙◌, Bor}
use Rattle.std.specs.Str.{bytes_eq}
use Rattle.pr_value.specs.Symbols.{Symbol}
use Rattle.pr_value.specs.declared.value.Value.TheVariants as value
use Rattle.action_eval.specs.Machine.{World, scope_in, helpers_in, is_in_body}
use Rattle.action_eval.specs.Meaning.{value_in}
use Rattle.action_eval.specs.SeenMachine.{seen_frame}
use Rattle.action_eval.specs.declared.machine.Frame.{Frame}
use Rattle.action_eval.specs.declared.machine.Frame.TheVariants as frame
use Rattle.action_eval.proofs.MachineLaws.{pushed}

module _ (fs outer : List Frame) (f : Frame) (cut : fs ≡ outer ++ f ∷ []) where
  innermost : (g : Frame) → f ≡ g → map seen_frame (reverse fs) ≡ seen_frame g ∷ map seen_frame (reverse outer)
  innermost g is = pushed seen_frame outer fs f cut ∙ ap (λ h. seen_frame h ∷ map seen_frame (reverse outer)) is

  pub outside-passed : (own : Bor Symbol) (s : Symbol) → f ≡ frame.Member own s
      → is_in_body (map seen_frame (reverse outer)) ≡ is_in_body (map seen_frame (reverse fs))
  outside-passed own s is = sym (ap is_in_body (innermost (frame.Member own s) is))

module _ (w : World) (fs outer : List Frame) (f : Frame) (cut : fs ≡ outer ++ f ∷ []) where
  pub member-passed : (own : Bor Symbol) (s name : Symbol) → f ≡ frame.Member own s → bytes_eq own.now name ≡ false
      → value_in (scope_in w (map seen_frame (reverse outer))).values name ≡ value_in (scope_in w (map seen_frame (reverse fs))).values name
  member-passed own s name is other =
      sym
      (ap (λ gs. value_in (scope_in w gs).values name) (innermost fs outer f cut (frame.Member own s) is)
      ∙ ap (λ b. cond b (value.Sym s) (value_in (scope_in w (map seen_frame (reverse outer))).values name)) other)

  pub helpers-passed : (own : Bor Symbol) (s : Symbol) → f ≡ frame.Member own s → helpers_in w (map seen_frame (reverse outer)) ≡ helpers_in w (map seen_frame (reverse fs))
  helpers-passed own s is = sym (ap (helpers_in w) (innermost fs outer f cut (frame.Member own s) is))

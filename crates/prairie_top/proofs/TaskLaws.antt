-- Words, and the commands that are built.
use Rattle.std.proofs.Common.{◌≡◌, List, Option, Some, None, refl, ap, sym, ◌∙◌, subst}
use Rattle.std.specs.Prelude.{option_map, MatchOption}
use Rattle.prairie_words.specs.Commands.{Word, Names, Command}
use Rattle.prairie_words.specs.Commands as commands
use Rattle.prairie_words.specs.Laws.{OneMeaning}
use Rattle.prairie_words.specs.Meaning.{Means}
use Rattle.prairie_top.specs.Tasks.{Task, plan, command_of, task_in}

-- a task is the one that its command asks for
in_command : (task : Task) → task_in (command_of task) ≡ Some task
in_command (plan names limits) = refl

-- no other command asks for it
of_command : (c : Command) (task : Task) → task_in c ≡ Some task → c ≡ command_of task
of_command (commands.plan names limits) (plan names' limits') e = cc e
of_command (commands.certify names limits) task e = absurd (cc e)
of_command (commands.check names certificate) task e = absurd (cc e)
of_command (commands.p2v rules) task e = absurd (cc e)
of_command (commands.trial number) task e = absurd (cc e)
of_command (commands.migrate certificate) task e = absurd (cc e)
of_command (commands.loops names limits flagged) task e = absurd (cc e)
of_command (commands.best count names limits) task e = absurd (cc e)
of_command (commands.replan names edits limits) task e = absurd (cc e)
of_command (commands.rows tables query) task e = absurd (cc e)

-- words ask for one task
pub one_task : OneMeaning → (words : List Word) (a b : Task) → Means words (command_of a) → Means words (command_of b) → a ≡ b
one_task one words a b is is' =
    let same : command_of a ≡ command_of b = one words (command_of a) (command_of b) is is' in
    let found : Some a ≡ Some b = sym (in_command a) ∙ (ap task_in same ∙ in_command b) in
    cc found

-- what is found of the command that words mean is what they ask for
pub task_found : {X : Type 0} (seen : X → Task) (words : List Word) (c : Command) (r : Option X) → OneMeaning → Means words c → option_map seen r ≡ task_in c
    → MatchOption r ((task : Task) → Means words (command_of task) → ⊥) (λ x. Means words (command_of (seen x)))
task_found seen words c (Some x) one means is = subst (Means words) (of_command c (seen x) (sym is)) means
task_found seen words c None one means is =
    λ task means'. let same : c ≡ command_of task = one words c (command_of task) means means' in
    let found : None ≡ Some task = is ∙ (ap task_in same ∙ in_command task) in
    cc found

use Rattle.std.proofs.Common.{◌∙◌}
use Rattle.std.proofs.lemmas.Result.{err_from_is_err_and}
use Rattle.text_grammar.specs.View.{view_file}
use Rattle.text_resolver.specs.DeclaredNames.{view_declared}
use Rattle.text_words.proofs.Steps.{ok_is}
use Rattle.text_resolver.proofs.Judged.{not_declared, judged_is, named_are}
use Rattle.text_resolver.proofs.judging.judged_names.Goals as goal

pub returns-in_err-names-clause-fault : goal.returns-in_err-names-clause-fault
returns-in_err-names-clause-fault c =
    let p = err_from_is_err_and c.from_residual.result c.from_residual.ensures.1 in
    rw (p.1, p.2) (not_declared c.in_err-names.field-0.0 (view_file c.args.file.now) c.in_err-names.ensures)

pub names_known-requires : goal.names_known-requires
names_known-requires c = record { named = named_are (view_file c.args.file.now) (view_declared c.in_ok-names.names) c.in_ok-names.ensures }

pub returns-then-not-branch-clause-fault : goal.returns-then-not-branch-clause-fault
returns-then-not-branch-clause-fault c =
    judged_is (view_file c.args.file.now) (view_declared c.in_ok-names.names) _ c.in_ok-names.ensures (ok_is _ _ c.in_ok-names_known.ensures ∙ c.if-not-branch.true)

pub returns-clause-named : goal.returns-clause-named
returns-clause-named c =
    judged_is (view_file c.args.file.now) (view_declared c.in_ok-names.names) _ c.in_ok-names.ensures (ok_is _ _ c.in_ok-names_known.ensures ∙ c.if-not-branch.false)

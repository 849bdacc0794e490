use Rattle.std.proofs.Common.{◌≡◌, ◌++◌, ◌∷◌, [], List, Ok, refl, sym, subst, ◌∙◌}
use Rattle.std.proofs.lemmas.Result.{err_from_is_err_and}
use Rattle.std.proofs.lemmas.List.{map_push}
use Rattle.std.specs.Prelude.{codes}
use Rattle.text_words.specs.Answers.{Fails}
use Rattle.text_words.specs.Tokens.{Lexeme, tokens}
use Rattle.text_grammar.specs.View.{view_run, view_runs}
use Rattle.text_grammar.specs.Reading.{run_at, run_behind}
use Rattle.text_grammar.specs.declared.file.FileForm.{FileForm}
use Rattle.text_words.specs.TokenReading.{form_at, begins, all_of}
use Rattle.text_words.proofs.Many.{goes_on, ends_at_item, is_done}
use Rattle.text_grammar.proofs.Files.{run_shortens}
use Rattle.text_parser.proofs.Begins.{begun, not_begun}
use Rattle.text_parser.proofs.file.runs_of.Goals as goal

-- a run is what stands behind its parenthesis and its word
behind : (form : FileForm) (ts rest : List Lexeme) → form_at (codes "run") ts ≡ Ok rest → run_at form ts ≡ run_behind form rest
unfolding run_at
behind form ts rest e = rw e refl

pub returns-in_err-run : goal.returns-in_err-run
returns-in_err-run c =
    let p = err_from_is_err_and c.from_residual.result c.from_residual.ensures.1 in
    let form = c.args.file_form in
    let word = codes "run" in
    let ts = tokens c.runs.rest.now in
    let inside = tokens c.in-Ok.inside.now in
    let fails = subst (Fails c.in_err-run.field-0.0) (sym (behind form ts inside c.in-Ok.ensures.value)) c.in_err-run.ensures.value in
    rw (p.1, p.2) (ends_at_item c.in_err-run.field-0.0 (begins word) (run_at form) (run_shortens form) (view_runs c.runs.runs.items) ts (all_of (begins word) (run_at form) (tokens c.args.bytes.now)) (begun word ts inside c.in-Ok.ensures.value) fails c.runs.invariant)

pub runs-preserved : goal.runs-preserved
runs-preserved c =
    let run = c.in_ok-run.run' in
    let form = c.args.file_form in
    let word = codes "run" in
    let ts = tokens c.runs.rest.now in
    let inside = tokens c.in-Ok.inside.now in
    let read = behind form ts inside c.in-Ok.ensures.value ∙ c.in_ok-run.ensures.value in
    let e : view_runs c.push.new.self.items ≡ view_runs c.runs.runs.items ++ view_run run ∷ [] = rw c.in_ok-push.ensures.items (map_push _ c.runs.runs.items run) in
    rw e (goes_on (begins word) (run_at form) (run_shortens form) (view_runs c.runs.runs.items) ts (view_run run, tokens c.in_ok-run.after.now) (all_of (begins word) (run_at form) (tokens c.args.bytes.now)) (begun word ts inside c.in-Ok.ensures.value) read c.runs.invariant)

pub returns : goal.returns
returns c =
    let form = c.args.file_form in
    let word = codes "run" in
    let ts = tokens c.runs.rest.now in
    let stop = not_begun word ts c.in_default.field-0 c.in_default.ensures.kind c.in_default.ensures.value in
    is_done (begins word) (run_at form) (view_runs c.runs.runs.items) ts (all_of (begins word) (run_at form) (tokens c.args.bytes.now)) stop c.runs.invariant

use Rattle.std.proofs.Common.{◌≡◌, length, sym, ap, ◌∙◌}
use Rattle.std.specs.List.{prefix_len}
use Rattle.std.proofs.lemmas.Bool.{eqb-true}
use Rattle.assembly_notation.specs.Lines.{is_no_blank}
use Rattle.assembly_notation.proofs.Lines.{word-spaces}
use Rattle.assembly_notation.proofs.words.is_word.Goals as goal

pub returns : goal.returns
returns c = λ e.
    let text = c.args.text.now in
    let all : c.letters.result ≡ prefix_len is_no_blank text = c.letters.ensures ∙ ap (prefix_len is_no_blank) c.as_bytes.ensures.value in
    word-spaces text (sym all ∙ eqb-true c.letters.result (length text) e)

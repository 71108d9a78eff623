use Rattle.std.proofs.Common.{◌≡◌, true, ◌∷◌, ◌∙◌, refl, sym, ap, subst, get_or, take, drop, length, ◌-◌, arith}
use Rattle.std.specs.List.{list_all}
use Rattle.std.specs.Str.{IsAscii}
use Rattle.std.proofs.lemmas.List.{drop_more, take_all, length-drop}
use Rattle.xml.specs.Names.{is_name}
use Rattle.xml.proofs.Naming.{plain, plain_name}
use Rattle.xml.proofs.name.is_plain_name.Goals as goal

pub returns : goal.returns
returns c =
    let bs = c.args.bytes.now in
    let first = get_or bs 0 0 in
    let rest = drop 1 bs in
    let whole : first ∷ rest ≡ bs = sym (drop_more bs 0 0 c.in-len1-up.len_at_least) in
    let behind = take (length bs - 1) rest in
    let cut : rest ≡ behind = sym (take_all (length bs - 1) rest (omega (arith, length-drop 1 bs))) in
    let done : behind ≡ take c.loop-byte.byte-index behind = sym (take_all c.loop-byte.byte-index behind c.loop-byte-test.false) in
    let all : list_all plain rest ≡ true = ap (list_all plain) (cut ∙ done) ∙ c.loop-byte.invariant in
    record {
      plain = λ _.
          let name = plain_name first rest (c.if-not-is_plain_start.ensures.start refl) all in
          (subst (λ l. is_name l ≡ true) whole name.0, subst IsAscii whole name.1);
    }

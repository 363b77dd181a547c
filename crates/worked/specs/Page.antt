-- Document 02, request 1: the page of document 01's first default, from its register sheet on.
use Rattle.std.specs.Prelude.{◌≡◌, refl, ◌++◌}
use Rattle.lists.specs.Checks.{check}
use Rattle.lists.specs.Texts.{ascii}
use Rattle.split.specs.Split.{share_of, split_of}
use Rattle.ranks.specs.Ranks.{charges_from, charges_of}
use Rattle.sheets.specs.Bytes.{le32}
use Rattle.sheets.specs.Columns.{columns_from, columns_of}
use Rattle.sheets.specs.Members.{outside, missing, excessive, member_fault}
use Rattle.sheets.specs.Sheet.{missized, member_refusal_from, member_refusal}
use Rattle.admission.specs.Admission.{one_pool}
use Rattle.waterfall.specs.Opening.{opening_register, opening_refusal}
use Rattle.waterfall.specs.Default.{rooms_of, fallen_call, to_place, on_margin, after1, on_contribution, after2, on_tranche1, after3, after4, on_tranche2, after5, on_calls, shortfall, allocation_of}
use Rattle.waterfall.specs.Pools.{given_before, pool_sums, pooled_charges, pooled_allocation}
use Rattle.pools.specs.Pools.{losses_after, joined_pool, sums_of, charges_in, charges_up_to, charges_together, unmet, still_standing, tied, charges_by_pools}
use Rattle.numbers.specs.Numbers.{decimal_of}
use Rattle.indian_digits.specs.IndianDigits.{with_commas, indian_of}
use Rattle.page.specs.Page.{row_of, heading, line, page_of}
use Rattle.worked.specs.Drills.{register, ranked}

pub first-page : page_of (pooled_allocation register 1 (one_pool 100_000) (ranked 255 1 2 2)) ≡
    ascii "LAYER                        Rs THOUSAND\n"
    ++ ascii "MARGIN                            50,000\n"
    ++ ascii "OWN FUND                          20,000\n"
    ++ ascii "TRANCHE 1                         13,200\n"
    ++ ascii "MEMBERS                           16,800\n"
    ++ ascii "TRANCHE 2                              0\n"
    ++ ascii "CALLS                                  0\n"
    ++ ascii "SHORT                                  0\n"
unfolding register opening_refusal member_refusal member_refusal_from member_fault outside missing excessive missized le32 check opening_register columns_of columns_from rooms_of fallen_call to_place on_margin after1 on_contribution after2 on_tranche1 after3 after4 on_tranche2 after5 on_calls shortfall allocation_of pooled_allocation pooled_charges pool_sums given_before losses_after joined_pool sums_of charges_in charges_up_to charges_together unmet still_standing tied charges_by_pools charges_of charges_from split_of share_of row_of heading line page_of indian_of with_commas decimal_of
first-page = refl

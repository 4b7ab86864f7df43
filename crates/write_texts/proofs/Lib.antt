pub mod TimesLaws
pub mod TextsLaws
pub mod SortLaws

mod Counting
mod Leading

mod Steps
mod Turns
mod ArgumentTexts
